use Rattle.std.proofs.Common.{◌≡◌, ◌∙◌, Some, ap, sym, ℕ}
use Rattle.frame_speech.proofs.Walked.{head_uncounted, head_short, head_cut}
use Rattle.frame_speech.proofs.values.cut_head.Goals as goal

pub returns-in_err-behind : goal.returns-in_err-behind
returns-in_err-behind c = rw c.from_residual.ensures (head_uncounted c.args.endian c.args.bytes.now c.in_err-behind.ensures.exact)

pub returns-in_err-items : goal.returns-in_err-items
returns-in_err-items c = rw c.from_residual-in_err-items.ensures (head_short c.args.endian c.args.bytes.now c.in_ok-behind.behind.now c.in_ok-behind.ensures.exact c.in_err-items.ensures.exact)

pub returns : goal.returns
returns c =
    head_cut c.args.endian c.args.bytes.now c.in_ok-behind.behind.now c.in_ok-items.items.now c.in_ok-behind.ensures.exact c.in_ok-items.ensures.exact
    ∙ ap (λ (n : ℕ). Some (n, c.in_ok-items.items.now)) (sym c.read_card32.ensures)
