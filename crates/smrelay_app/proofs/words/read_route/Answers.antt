use Rattle.std.proofs.Common.{arith, map, string_bytes, drop, length, sym, ◌∙◌, ap, Some, ◌≡◌}
use Rattle.std.proofs.lemmas.List.{length-map, length-drop}
use Rattle.smrelay_app.proofs.Wording.{begins_serve}
use Rattle.smrelay_app.proofs.words.read_route.Goals as goal

pub returns : goal.returns
returns c =
    let ws = map string_bytes c.args.words.now in
    let size : length ws ≡ 7 = length-map c.args.words.now string_bytes ∙ c.if-words-ne7.false in
    record {
      pairs = drop 1 ws;
      begins = begins_serve ws size (sym c.is_word.ensures ∙ c.if-not-is_word.false);
      six = omega (arith, length-drop 1 ws, size);
      socket = c.in_ok-socket.ensures;
      to = c.in_ok-to.ensures;
      named = c.in_ok-value_of.ensures ∙ ap Some c.in_ok-order.ensures;
    }
