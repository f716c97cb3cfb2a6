use Rattle.session_places.proofs.ListLaws.{ends, goes_on}
use Rattle.session_places.proofs.addresses.session_places.Goals as goal

pub loop-address-preserved : goal.loop-address-preserved
loop-address-preserved c = goes_on c.args.text.now c.loop-address.places c.put_address.new.places c.loop-address.rest.now c.in-Some.address.now c.in-Some.after.now c.loop-address.invariant c.in-Some.ensures c.in_ok-put_address.ensures

pub returns : goal.returns
returns c = ends c.args.text.now c.loop-address.places c.put_address-2.new.places c.loop-address.rest.now c.loop-address.invariant c.in_default.ensures c.in_ok-put_address-2.ensures
