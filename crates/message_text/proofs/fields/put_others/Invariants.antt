use Rattle.std.proofs.Common.{◌≡◌, ◌++◌, take, codes}
use Rattle.std.specs.List.{flat_map}
use Rattle.message_text.proofs.fields.put_others.Given as goal

abbrev pub invariant-loop-item : goal.invariant-loop-item
invariant-loop-item g l = l.out ≡ l.fn.out ++ flat_map (λ item. codes "," ++ g.T.Shown.text l.writing item) (take l.item-index l.items)
