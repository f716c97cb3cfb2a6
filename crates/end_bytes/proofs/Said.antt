-- What the manager says on a connection is what the session sends on it.
use Rattle.std.proofs.Common.{◌≡◌, refl, sym, ap, ◌∙◌, ℕ, Bool, true, false, cond, List, [], ◌∷◌, ◌++◌, map, append-nil, append_assoc}
use Rattle.std.specs.Prelude.{◌==◌}
use Rattle.std.specs.List.{flat_map}
use Rattle.std.proofs.lemmas.List.{map-append}
use Rattle.std.proofs.lemmas.Grind.{flat_map-append}
use Rattle.xsmp_messages.specs.declared.message.XsmpMessage.{XsmpMessage}
use Rattle.xsmp_messages.specs.declared.message.XsmpMessage.TheVariants.{Error}
use Rattle.session_model.specs.declared.events.Act.{Act as SessionAct}
use Rattle.session_model.specs.Moves.{Blamed, Gave, History, Move, Outside, acts_of as acts_by, all_acts, ◌▷◌}
use Rattle.session_model.specs.Rules.{taken}
use Rattle.session_model.proofs.Inner.{IsInner, kept-taken}
use Rattle.session_engine.specs.Acts.{acts_for, acts_for_all}
use Rattle.session_engine.specs.Machine.{acts_since, told}
use Rattle.session_engine.proofs.Following.{since-is}
use Rattle.session_engine.proofs.Showing.{acts_noted}
use Rattle.protocol_messages.specs.declared.message.Message.{Message}
use Rattle.protocol_messages.specs.declared.message.Message.TheVariants.{Xsmp}
use Rattle.end_schedules.specs.UnderWay.{sent_to}
use Rattle.end_bytes.specs.Saying.{AllThatIsSentIsSaid, said_by, said_on}

abbrev pub said_in : ℕ → List SessionAct → List Message
said_in c acts = flat_map (said_on c) (acts_for_all acts)

said-both : (c : ℕ) (xs ys : List SessionAct) → said_in c (xs ++ ys) ≡ said_in c xs ++ said_in c ys
said-both c xs ys = ap (flat_map (said_on c)) (flat_map-append acts_for xs ys) ∙ flat_map-append (said_on c) (acts_for_all xs) (acts_for_all ys)

-- a message that is sent to c, or to another
given : (b : Bool) (sent : List XsmpMessage) (m : XsmpMessage) → map Xsmp (cond b (sent ++ m ∷ []) sent) ≡ map Xsmp sent ++ (cond b (Xsmp m ∷ []) [] ++ [])
given true sent m = map-append Xsmp sent (m ∷ [])
given false sent m = sym (append-nil (map Xsmp sent))

sent-moved : (c : ℕ) (m : Move) (h : History) → IsInner m → map Xsmp (sent_to c (m ▷ h)) ≡ map Xsmp (sent_to c h) ++ said_in c (acts_by m)
sent-moved c (Outside event) h inner = absurd inner
sent-moved c (Gave d m) h inner = given (d == c) (sent_to c h) m
sent-moved c (Blamed d error) h inner = given (d == c) (sent_to c h) (Error error)
sent-moved c m h inner = sym (append-nil (map Xsmp (sent_to c h)))

-- so much was done since, and c was sent what that says on it
record Since (c : ℕ) (begin : List Message) (h g : History) : Type 0 where
  acts : List SessionAct
  are : all_acts g ≡ all_acts h ++ acts
  sent : map Xsmp (sent_to c g) ≡ begin ++ said_in c acts

since-moved : (c : ℕ) (begin : List Message) (h : History) (m : Move) (g : History) → IsInner m → Since c begin h g → Since c begin h (m ▷ g)
since-moved c begin h m g inner since = record {
  acts = since.acts ++ acts_by m;
  are = ap (λ (xs : List SessionAct). xs ++ acts_by m) since.are ∙ append_assoc (all_acts h) since.acts (acts_by m);
  sent = sent-moved c m g inner ∙ ap (λ (xs : List Message). xs ++ said_in c (acts_by m)) since.sent ∙ append_assoc begin (said_in c since.acts) (said_in c (acts_by m)) ∙ ap (λ (xs : List Message). begin ++ xs) (sym (said-both c since.acts (acts_by m)));
}

pub all-sent : AllThatIsSentIsSaid
all-sent c m event =
    let h : History = m.session in
    let begin : List Message = map Xsmp (sent_to c (Outside event ▷ h)) in
    let since : Since c begin h (taken event h) = kept-taken (Since c begin h) (since-moved c begin h) event h (record { acts = []; are = refl; sent = sym (append-nil begin) }) in
    let said : said_by c (told m event) ≡ said_in c since.acts =
    ap (flat_map (said_on c)) (acts_noted (acts_for_all (acts_since h (taken event h)))) ∙ ap (said_in c) (since-is h (taken event h) since.acts since.are) in
    since.sent ∙ ap (λ (xs : List Message). begin ++ xs) (sym said)
