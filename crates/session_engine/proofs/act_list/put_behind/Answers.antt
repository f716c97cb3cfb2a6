use Rattle.std.proofs.Common.{rules, ◌≡◌, [], ◌∷◌, ◌++◌, ◌∙◌, sym, ap, append_assoc}
use Rattle.std.proofs.lemmas.List.{append-nil}
use Rattle.session_engine.specs.Acts.{acts_for, acts_for_all}
use Rattle.session_engine.proofs.Performing.{outward_more}
use Rattle.session_engine.proofs.act_list.put_behind.Goals as goal

pub loop-act-init : goal.loop-act-init
loop-act-init c =
    let same = c.from-left.ensures.0 ∙ c.into_vec.ensures in
    record { puts = ([], same, sym (append-nil c.args.said.now.items)); fit = rw same (c.requires.fit); can = c.requires.can }

pub loop-act-preserved : goal.loop-act-preserved
loop-act-preserved c =
    let so_far = c.loop-act.invariant.puts in
    let left = c.in-Some.ensures.items in
    record {
      puts = (
        so_far.0 ++ c.in-Some.act ∷ [],
        append_assoc so_far.0 (c.in-Some.act ∷ []) c.pop_front.new.self.items ∙ (ap (λ xs. so_far.0 ++ xs) (sym left) ∙ so_far.1),
        c.in_ok-put_one.ensures.items ∙ (ap (λ xs. xs ++ acts_for c.in-Some.act) so_far.2 ∙ (append_assoc c.args.said.now.items (acts_for_all so_far.0) (acts_for c.in-Some.act) ∙ ap (λ xs. c.args.said.now.items ++ xs) (outward_more so_far.0 c.in-Some.act))),
      );
      fit = (rw left at c.loop-act.invariant.fit).1;
      can = c.put_one.ensures.can;
    }

pub returns-clause-items : goal.returns-clause-items
returns-clause-items c =
    let so_far = c.loop-act.invariant.puts in
    let none : c.loop-act.left.items ≡ [] = search rules in
    so_far.2 ∙ ap (λ xs. c.args.said.now.items ++ acts_for_all xs) (sym (append-nil so_far.0) ∙ (ap (λ xs. so_far.0 ++ xs) (sym none) ∙ so_far.1))
