use Rattle.std.proofs.Common.{refl}
use Rattle.worked.proofs.examples.Goals as goal
use Rattle.worked.proofs.BookA as a
use Rattle.worked.proofs.Others as others
use Rattle.worked.proofs.Presses as presses

pub returns : goal.returns
returns c = record {
  sound_a = a.sound_a;
  sound_b = others.sound_b;
  none_held = a.none_held;
  none_short = a.none_short;
  one_held = a.one_held;
  one_short = a.one_short;
  one_dark = others.one_dark;
  two_held = a.two_held;
  two_whole = a.two_whole;
  three_held = a.three_held;
  three_short = a.three_short;
  four_crowded = others.four_crowded;
  four_taken = others.four_taken;
  four_held = a.four_held;
  presses = presses.press_examples;
  four_moves = a.four_moves;
  cycle_held = a.cycle_held;
  cycle_short = a.cycle_short;
  ended_held = a.ended_held;
  ended_whole = a.ended_whole;
  b_moves = others.b_moves;
  endless_refused = others.endless_refused;
  circular_refused = others.circular_refused;
  numbers = (refl, refl, refl, refl);
}
