-- The bodies of messages are read exactly.
use Rattle.std.proofs.Common.{ℕ, List, [], ◌++◌}
use Rattle.ice_values.specs.Cells.{Cells, free}
use Rattle.ice_values.specs.Fields.{text16, IsText16, version, IsVersion, texts, versions, IsCounted}
use Rattle.ice_values.specs.Reading.{text16_at, version_at, many_at, nothing_at, after_at}
use Rattle.ice_values.specs.Frames.{body_at}
use Rattle.ice_values.specs.declared.numbers.Endian.{Endian}
use Rattle.ice_values.specs.declared.version.Version.{Version}
use Rattle.ice_values.proofs.FieldLaws.{Exact, pair, after, text16_exact, version_exact, nothing_exact}
use Rattle.ice_values.proofs.ListLaws.{many}
use Rattle.ice_values.proofs.BodyLaws.{Whole, whole}
use Rattle.ice_messages.specs.Reading.{makers_at, lists_at, offer_at, protocol_at}

-- the vendor and the release
abbrev pub Makers : Type 0
Makers = List ℕ × List ℕ

abbrev pub makers : Endian → Makers → Cells
makers e x = text16 e x.0 ++ text16 e x.1

abbrev pub IsMakers : Makers → Type 0
IsMakers x = IsText16 x.0 × IsText16 x.1

-- the names and the versions
abbrev pub Lists : Type 0
Lists = List (List ℕ) × List Version

abbrev pub lists : Endian → Lists → Cells
lists e x = texts e x.0 ++ versions e x.1

abbrev pub IsLists : ℕ → ℕ → Lists → Type 0
IsLists names offered x = IsCounted IsText16 names x.0 × IsCounted IsVersion offered x.1

-- both, and both after a name
abbrev pub offer : Endian → Makers × Lists → Cells
offer e x = makers e x.0 ++ lists e x.1

abbrev pub IsOfferOf : ℕ → ℕ → Makers × Lists → Type 0
IsOfferOf names offered x = IsMakers x.0 × IsLists names offered x.1

abbrev pub protocol : Endian → List ℕ × (Makers × Lists) → Cells
protocol e x = text16 e x.0 ++ offer e x.1

abbrev pub IsProtocolOf : ℕ → ℕ → List ℕ × (Makers × Lists) → Type 0
IsProtocolOf names offered x = IsText16 x.0 × IsOfferOf names offered x.1

pub makers_exact : (e : Endian) → Exact (makers e) IsMakers (makers_at e)
unfolding makers_at
makers_exact e = pair (text16 e) IsText16 (text16_at e) (text16 e) IsText16 (text16_at e) (text16_exact e) (text16_exact e)

lists_exact : (e : Endian) (names offered : ℕ) → Exact (lists e) (IsLists names offered) (lists_at e names offered)
unfolding lists_at
lists_exact e names offered =
    pair (texts e) (IsCounted IsText16 names) (many_at (text16_at e) names) (versions e) (IsCounted IsVersion offered) (many_at (version_at e) offered)
    (many (text16 e) IsText16 (text16_at e) (text16_exact e) names) (many (version e) IsVersion (version_at e) (version_exact e) offered)

offer_exact : (e : Endian) (names offered : ℕ) → Exact (offer e) (IsOfferOf names offered) (offer_at e names offered)
unfolding offer_at
offer_exact e names offered = pair (makers e) IsMakers (makers_at e) (lists e) (IsLists names offered) (lists_at e names offered) (makers_exact e) (lists_exact e names offered)

protocol_exact : (e : Endian) (names offered : ℕ) → Exact (protocol e) (IsProtocolOf names offered) (protocol_at e names offered)
unfolding protocol_at
protocol_exact e names offered = pair (text16 e) IsText16 (text16_at e) (offer e) (IsOfferOf names offered) (offer_at e names offered) (text16_exact e) (offer_exact e names offered)

pub nothing_law : (e : Endian) (minor : ℕ) → Whole e 0 minor (λ x. free 2) (λ x. []) (λ x. Unit {0}) (body_at nothing_at)
nothing_law e minor = whole (λ x. []) (λ x. Unit {0}) nothing_at e 0 minor nothing_exact

pub offer_law : (e : Endian) (minor names offered : ℕ) → Whole e 0 minor (λ x. free 2) (λ x. free 8 ++ offer e x) (IsOfferOf names offered) (body_at (after_at 8 (offer_at e names offered)))
offer_law e minor names offered =
    whole (λ x. free 8 ++ offer e x) (IsOfferOf names offered) (after_at 8 (offer_at e names offered)) e 0 minor (after 8 (offer e) (IsOfferOf names offered) (offer_at e names offered) (offer_exact e names offered))

pub protocol_law : (e : Endian) (minor names offered : ℕ) → Whole e 0 minor (λ x. free 2) (λ x. free 8 ++ protocol e x) (IsProtocolOf names offered) (body_at (after_at 8 (protocol_at e names offered)))
protocol_law e minor names offered =
    whole (λ x. free 8 ++ protocol e x) (IsProtocolOf names offered) (after_at 8 (protocol_at e names offered)) e 0 minor (after 8 (protocol e) (IsProtocolOf names offered) (protocol_at e names offered) (protocol_exact e names offered))
