use Rattle.std.proofs.Common.{◌≡◌, [], ℕ, List, length, false}
use Rattle.ice_cookie.specs.declared.cookies.Cookie.{Cookie}
use Rattle.named_joiner.specs.Script.{Callbacks, is_over}
use Rattle.sm_world.specs.Outside.{Outside}
use Rattle.smwrap_app.specs.Turning.{Amid}
use Rattle.smwrap_app.proofs.joining.listen.Given as goal

abbrev pub invariant-loop : goal.invariant-loop
invariant-loop g l = record {
  under : (cookie : Cookie) (previous : List ℕ) (first : Outside) (begin : Callbacks _ _) → Amid g.S.NamedSaves.answers g.D.NamedDies.gives cookie previous first begin (g.P.Told.outside l.fn.peer) l.fn.joiner 0 [] → Amid g.S.NamedSaves.answers g.D.NamedDies.gives cookie previous first begin (g.P.Told.outside l.peer) l.joiner l.counter [];
  going : is_over l.joiner.stand.ending ≡ false;
  room : length l.room ≡ 4096;
}
