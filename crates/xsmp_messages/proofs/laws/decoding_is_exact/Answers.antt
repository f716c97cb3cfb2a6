use Rattle.std.proofs.Common.{slice_index}
use Rattle.ice_values.proofs.DecodeLaws.{is_spelled, has_cause, needs_no_memory}
use Rattle.xsmp_messages.specs.Messages.{Spells, Refused}
use Rattle.xsmp_messages.specs.Reading.{decode_at}
use Rattle.xsmp_messages.proofs.Dispatch.{decode_caused, decode_again}
use Rattle.xsmp_messages.proofs.laws.decoding_is_exact.Goals as goal

pub returns-clause-message : goal.returns-clause-message
returns-clause-message c = λ e bytes message framed. (
  λ is. is_spelled (λ m. Spells e (slice_index bytes 0) m bytes) (Refused e bytes) (decode_at e bytes) message (decode_caused e bytes framed) is,
  λ spelled. decode_again e (slice_index bytes 0) bytes message spelled,
)

pub returns-clause-refusal : goal.returns-clause-refusal
returns-clause-refusal c = λ e bytes refusal framed is. has_cause (λ m. Spells e (slice_index bytes 0) m bytes) (Refused e bytes) (decode_at e bytes) refusal (decode_caused e bytes framed) is

pub returns-clause-memory : goal.returns-clause-memory
returns-clause-memory c = λ e bytes framed is. needs_no_memory (λ m. Spells e (slice_index bytes 0) m bytes) (Refused e bytes) (decode_at e bytes) (decode_caused e bytes framed) is
