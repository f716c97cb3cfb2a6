use Rattle.std.proofs.Common.{rules, ◌≡◌, ◌∙◌, length, true, false}
use Rattle.std.specs.Prelude.{filter, nat_le}
use Rattle.stream_watch.specs.Visiting.{is_strange}
use Rattle.stream_watch.proofs.Shown.{as_many, as_many_strange, full_by, full_by_all}
use Rattle.stream_watch.proofs.visitors.Visitors.is_full.Goals as goal

pub returns-then-count_strangers-ge-STRANGER_LIMIT :
    goal.returns-then-count_strangers-ge-STRANGER_LIMIT
returns-then-count_strangers-ge-STRANGER_LIMIT c = λ lines shows.
    let count : c.count_strangers.result ≡ length (filter is_strange c.args.self.now) = search rules in
    let big : nat_le 32 c.count_strangers.result ≡ true = search rules in
    full_by c.count_strangers.result lines (count ∙ as_many_strange c.args.self.now lines shows) big

pub returns-else-count_strangers-ge-STRANGER_LIMIT :
    goal.returns-else-count_strangers-ge-STRANGER_LIMIT
returns-else-count_strangers-ge-STRANGER_LIMIT c = λ lines shows.
    let count : c.count_strangers.result ≡ length (filter is_strange c.args.self.now) = search rules in
    let small : nat_le 32 c.count_strangers.result ≡ false = search rules in
    let len : c.len.result ≡ length c.args.self.now = search rules in
    full_by_all c.count_strangers.result c.len.result lines (count ∙ as_many_strange c.args.self.now lines shows) small (len ∙ as_many c.args.self.now lines shows)
