use Rattle.std.proofs.Common.{◌-◌, length, Ok, Err, arith}
use Rattle.ice_values.specs.Properties.{property_list, property_list_at, IsListed, IsProperty}
use Rattle.ice_values.specs.Walks.{walk_left}
use Rattle.ice_values.specs.declared.refusals.ValueRefusal.TheVariants.{Short}
use Rattle.ice_values.proofs.CellLaws.{slice_bytes}
use Rattle.ice_values.proofs.FrontLaws.{no_longer, used, reads_front}
use Rattle.ice_values.proofs.PropertyLaws.{property_list_exact}
use Rattle.ice_values.proofs.walk.walk_properties.Goals as goal

pub overflow_sub-result : goal.overflow_sub-result
overflow_sub-result c =
    let e = c.args.endian in
    no_longer (property_list e) (IsListed IsProperty) (property_list_at e) (property_list_exact e) c.args.bytes.now (walk_left c.in-Some.walk) c.in-Some.rest.now (slice_bytes c.args.bytes.now c.type_inv.bytes) c.in-Some.ensures.exact

pub returns-in-Some-clause-front : goal.returns-in-Some-clause-front
returns-in-Some-clause-front c =
    let e = c.args.endian in
    let bytes = c.args.bytes.now in
    let fits = slice_bytes bytes c.type_inv.bytes in
    reads_front (property_list e) (IsListed IsProperty) (property_list_at e) (property_list_exact e) bytes fits (Ok (walk_left c.in-Some.walk, length bytes - length c.in-Some.rest.now))
    (used (property_list e) (IsListed IsProperty) (property_list_at e) (property_list_exact e) bytes (walk_left c.in-Some.walk) c.in-Some.rest.now fits c.in-Some.ensures.exact) (omega arith)

pub returns-in-Some-clause-exact : goal.returns-in-Some-clause-exact
returns-in-Some-clause-exact c =
    let e = c.args.endian in
    (c.in-Some.ensures.order, used (property_list e) (IsListed IsProperty) (property_list_at e) (property_list_exact e) c.args.bytes.now (walk_left c.in-Some.walk) c.in-Some.rest.now (slice_bytes c.args.bytes.now c.type_inv.bytes) c.in-Some.ensures.exact)

pub returns-in-None-clause-front : goal.returns-in-None-clause-front
returns-in-None-clause-front c =
    let e = c.args.endian in
    reads_front (property_list e) (IsListed IsProperty) (property_list_at e) (property_list_exact e) c.args.bytes.now (slice_bytes c.args.bytes.now c.type_inv.bytes) (Err Short) c.in-None.ensures.exact tt
