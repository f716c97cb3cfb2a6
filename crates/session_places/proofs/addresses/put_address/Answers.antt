use Rattle.session_places.proofs.ListLaws.{adds_none, adds_unix, on_ok}
use Rattle.session_places.proofs.addresses.put_address.Goals as goal

pub returns-in-Some-parts_by : goal.returns-in-Some-parts_by
returns-in-Some-parts_by c = on_ok c.put_unix.result (adds_unix c.args.address.now c.in-Some-parts_by.host.now c.in-Some-parts_by.name.now c.args.places.now c.put_unix.new.places c.in-Some-parts_by.ensures) c.put_unix.ensures

pub returns : goal.returns
returns c = adds_none c.args.address.now c.args.places.now c.in_default.ensures c.in_default-parts_by.ensures
