use Rattle.std.proofs.Common.{◌≡◌, ℕ, ◌≤◌, length, map, ap, ◌∙◌, arith}
use Rattle.std.specs.Rc.{rc_value}
use Rattle.std.specs.Global.{Vec}
use Rattle.std.specs.Map.{keys_of, values_of}
use Rattle.std.specs.List.{position_or_len}
use Rattle.std.specs.Str.{bytes_eq}
use Rattle.xsmp_properties.specs.Named.{place_among}
use Rattle.xsmp_properties.proofs.MapLaws.{place-found, place-missing, place-within, place-by_keys}
use Rattle.xsmp_properties.proofs.SizeLaws.{mapped-length}
use Rattle.xsmp_properties.proofs.named.NamedProperties.place.Goals as goal

pub returns-in-Some : goal.returns-in-Some
returns-in-Some c =
    let name = c.args.name.now in
    let es = c.self.inside.held.entries in
    place-found (λ (key : Vec ℕ). bytes_eq name key.items) (keys_of es) c.in-Some.place c.in-Some.ensures.index ∙ place-by_keys rc_value es name c.self.invariant.0 ∙ ap (place_among name) c.self.view_is

pub returns-in-None : goal.returns-in-None
returns-in-None c =
    let name = c.args.name.now in
    let es = c.self.inside.held.entries in
    let at : position_or_len (λ (key : Vec ℕ). bytes_eq name key.items) (keys_of es) ≡ place_among name c.args.self.now = place-by_keys rc_value es name c.self.invariant.0 ∙ ap (place_among name) c.self.view_is in
    let missing : length (keys_of es) ≤ position_or_len (λ (key : Vec ℕ). bytes_eq name key.items) (keys_of es) = place-missing (λ (key : Vec ℕ). bytes_eq name key.items) (keys_of es) c.in-None.ensures.index in
    let held : length (map rc_value (values_of es)) ≡ length c.args.self.now = ap length c.self.view_is in
    omega (arith, at, missing, held, place-within name c.args.self.now, c.len.ensures.len, mapped-length rc_value (values_of es), mapped-length (λ (e : Vec ℕ × _). e.0) es, mapped-length (λ (e : Vec ℕ × _). e.1) es)
