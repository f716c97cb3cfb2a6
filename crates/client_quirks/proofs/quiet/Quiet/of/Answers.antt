use Rattle.std.proofs.Common.{refl, sym}
use Rattle.client_quirks.proofs.quiet.Quiet.of.Goals as goal

pub returns : goal.returns
returns c = record {
  follows = c.is_idle.ensures.follows c.if-not-is_idle.false;
  calm = c.is_idle.ensures.calm c.if-not-is_idle.false;
  unpinged = c.is_idle.ensures.unpinged c.if-not-is_idle.false;
  free = c.is_idle.ensures.free c.if-not-is_idle.false;
  meant = refl;
  meant_stands = c.in_ok-came.ensures;
  came = sym (c.agree.ensures.came c.if-not-agree.false);
  came_stands = c.stand_in.ensures.came c.if-not-stand_in.false;
  heard = sym (c.agree.ensures.heard c.if-not-agree.false);
  heard_stands = c.stand_in.ensures.heard c.if-not-stand_in.false;
  sent = refl;
  sent_stands = c.in_ok-sent.ensures;
  told = sym (c.agree.ensures.told c.if-not-agree.false);
  told_stands = c.stand_in.ensures.told c.if-not-stand_in.false;
}
