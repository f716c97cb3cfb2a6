use Rattle.std.proofs.Common.{rules, IfOk, IfErr}
use Rattle.display_place.specs.Names.{Names}
use Rattle.display_place.specs.Refusals.{IsRefused}
use Rattle.display_place.specs.declared.places.DisplayName.{DisplayName}
use Rattle.display_place.specs.declared.refusals.DisplayRefusal.TheVariants.{NoNumber}
use Rattle.display_place.proofs.OneName.{text_names_one, refused_names_none, gives_what_is_named}
use Rattle.display_place.proofs.names.read_display.Goals as goal

pub returns-in_default-clause-exact : goal.returns-in_default-clause-exact
returns-in_default-clause-exact c = λ display names.
    let refused : IsRefused c.args.text.now NoNumber = search rules in
    refused_names_none c.args.text.now NoNumber display refused names

pub returns-in_err-number-clause-exact : goal.returns-in_err-number-clause-exact
returns-in_err-number-clause-exact c =
    let says : IfOk c.from_residual-in_err-number.result (Names c.args.text.now) = search rules in
    let refused : IfErr c.from_residual-in_err-number.result (IsRefused c.args.text.now) = search rules in
    gives_what_is_named c.args.text.now c.from_residual-in_err-number.result says refused

pub returns-in_err-place-clause-exact : goal.returns-in_err-place-clause-exact
returns-in_err-place-clause-exact c =
    let says : IfOk c.from_residual-in_err-place.result (Names c.args.text.now) = search rules in
    let refused : IfErr c.from_residual-in_err-place.result (IsRefused c.args.text.now) = search rules in
    gives_what_is_named c.args.text.now c.from_residual-in_err-place.result says refused

pub returns-clause-exact : goal.returns-clause-exact
returns-clause-exact c = λ display names.
    let named : DisplayName = record { place = c.in_ok-place.place; number = c.in_ok-number.number; screen = c.in_ok-number.screen } in
    let says : Names c.args.text.now named = search rules in
    text_names_one c.args.text.now named display says names
