use Rattle.std.proofs.Common.{◌≡◌, ◌++◌, drop}
use Rattle.std.specs.List.{flat_map}
use Rattle.store_login.specs.Lines.{offer_line}
use Rattle.store_login.proofs.lines.put_offers.Given as goal

abbrev pub invariant-loop-kept : goal.invariant-loop-kept
invariant-loop-kept l = l.out ++ flat_map (offer_line l.name l.which l.present) (drop l.kept-index l.offers) ≡ l.initial.out ++ flat_map (offer_line l.name l.which l.present) l.offers
