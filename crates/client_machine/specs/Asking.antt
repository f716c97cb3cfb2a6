-- What a client may send, and what it is afterwards.
use Rattle.std.specs.Prelude.{Bool, Err, Ok, Result, cond, is_none, is_some, not, ◌&&◌, ◌||◌}
use Rattle.xsmp_messages.specs.declared.message.XsmpMessage.{XsmpMessage}
use Rattle.xsmp_messages.specs.declared.message.XsmpMessage.TheVariants.{ConnectionClosed, DeleteProperties, GetProperties, InteractDone, InteractRequest, SaveYourselfDone, SaveYourselfPhase2Request, SaveYourselfRequest, SetProperties}
use Rattle.client_machine.specs.Phases.{ClientState, is_dead, is_first_saving, is_interacting, is_owing, is_registered, is_saving, phase_said}
use Rattle.client_machine.specs.Saves.{allows, may_cancel}
use Rattle.client_machine.specs.declared.requests.AskRefusal.{AskRefusal}
use Rattle.client_machine.specs.declared.requests.AskRefusal.TheVariants.{WrongPhase}
use Rattle.client_machine.specs.declared.requests.Request.{Request}
use Rattle.client_machine.specs.declared.requests.Request.TheVariants.{Close, Delete, Done, Get, Interact, InteractDone as Talked, PhaseTwo, Save, Set}

-- the message that says a request; a save of one client is not global
abbrev pub requested : Request → XsmpMessage
requested (Done success) = SaveYourselfDone success
requested PhaseTwo = SaveYourselfPhase2Request
requested (Interact dialog) = InteractRequest dialog
requested (Talked cancel) = InteractDone cancel
requested (Save wanted) = SaveYourselfRequest wanted.kind wanted.shutdown wanted.style wanted.fast (is_none wanted.only)
requested (Set list) = SetProperties list
requested (Delete names) = DeleteProperties names
requested Get = GetProperties
requested (Close reasons) = ConnectionClosed reasons

-- whether a request has its place
abbrev pub may_ask : Request → ClientState → Bool
may_ask (Done success) s = is_saving s.phase || is_owing s.phase
may_ask PhaseTwo s = is_first_saving s.phase
may_ask (Interact dialog) s = is_saving s.phase && allows s.asked.style dialog
may_ask (Talked cancel) s = is_interacting s.phase && may_cancel s.asked.shutdown cancel
may_ask (Save wanted) s = is_registered s.phase && not (is_some wanted.only && wanted.shutdown)
may_ask (Set list) s = is_registered s.phase
may_ask (Delete names) s = is_registered s.phase
may_ask Get s = is_registered s.phase
may_ask (Close reasons) s = not (is_dead s.phase)

-- the answer to a request
abbrev pub answered : Request → ClientState → Result XsmpMessage AskRefusal
answered request s = cond (may_ask request s) (Ok (requested request)) (Err (WrongPhase s.phase))

-- the client after a request
abbrev pub after_asked : Request → ClientState → ClientState
after_asked request s = cond (may_ask request s) (record s { phase = phase_said request s.phase }) s
