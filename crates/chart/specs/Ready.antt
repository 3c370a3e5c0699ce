-- When a word can be pressed.
use Rattle.std.specs.Prelude.{◌≡◌, ℕ, length, ◌<◌, ◌≤◌, IsTrue, ◌↔◌}
use Rattle.language.specs.Chart.{Wanted}
use Rattle.rulebook.specs.Sets.{has}
use Rattle.wording.specs.declared.pressed.Matched.{Matched}
use Rattle.chart.specs.Indexes.{IndexOf}
use Rattle.chart.specs.Records.{grammar_of, words_with, wanted_in}
use Rattle.chart.specs.declared.records.Settled.{Settled}

-- another word fits, and what may start after each word held is known
pub record Ready (s : Settled) (w : Matched) : Type 0 where
  pub few : s.held < 100
  pub long : length s.records ≡ 100
  pub index : IndexOf (grammar_of s) s.index
  pub wanted : (j Y : ℕ) → j ≤ s.held → IsTrue (has (wanted_in s j) Y) ↔ Wanted (grammar_of s) (words_with s w) j Y
