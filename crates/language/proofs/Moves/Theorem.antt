-- What is known of the moves of a reading.
use Rattle.std.proofs.Common.{◌≡◌, ◌+◌, ◌*◌, ◌≤◌, length, arith}
use Rattle.language.specs.Moves.{MovesTheorem, moves, rules}
use Rattle.language.proofs.Moves.Many.{many_moves}
use Rattle.language.proofs.Moves.Rules.{few_rules_below}
use Rattle.language.proofs.Moves.Run.{run_moves}

-- the moves of a reading are a complete run, and there are few of them
pub moves_theorem : MovesTheorem
moves_theorem m sound ws t =
    let r = t.reading.by in
    let ks = t.reading.children in
    let many : length (moves r ks) ≡ 2 * rules t.reading + length ws = omega (arith, many_moves r ks, t.is.long) in
    let few : rules t.reading + 32 ≤ 64 * length ws = omega (arith, few_rules_below m sound r ks t.reading.fits t.reading.whole, t.is.long) in
    record {
      run = run_moves m.grammar sound.formed.counts.few_rules (λ s n. (sound.formed.rules s n).some_symbols) ws t;
      many = many;
      few_rules = omega arith;
      few_moves = λ h. omega arith;
    }
