use Rattle.std.proofs.Common.{◌≡◌, refl, slice_index}
use Rattle.std.proofs.lemmas.Bool.{ne_eqb}
use Rattle.ice_messages.proofs.Dispatch.{cut_is_refused as ice_refused}
use Rattle.xsmp_messages.proofs.Dispatch.{cut_is_refused as xsmp_refused}
use Rattle.trace_replay.specs.Frames.{last_minor}
use Rattle.trace_replay.proofs.laws.a_cut_header_is_refused.Goals as goal

pub returns-clause-ice : goal.returns-clause-ice
returns-clause-ice c = λ e bytes fits cut major.
    let last : last_minor (slice_index bytes 0) ≡ 12 = rw major refl in
    rw last (ice_refused e bytes fits cut)

pub returns-clause-xsmp : goal.returns-clause-xsmp
returns-clause-xsmp c = λ e bytes fits cut major.
    let last : last_minor (slice_index bytes 0) ≡ 18 = rw (ne_eqb (slice_index bytes 0) 0 major) refl in
    rw last (xsmp_refused e bytes fits cut)
