-- From the tests to what the examples say.
use Rattle.std.proofs.Common.{◌≡◌, ℕ, ◌≤◌, Bool, true, false, ◌&&◌, List, length, refl, le_refl}
use Rattle.std.proofs.lemmas.Bool.{and_parts}
use Rattle.language.specs.Book.{Meaning, Numbered, rule, form, size}
use Rattle.language.specs.Sound.{Sound}
use Rattle.language.specs.Words.{Word, between}
use Rattle.language.specs.Readings.{Children, Item, Programme}
use Rattle.language.specs.Chart.{first, self}
use Rattle.language.specs.Moves.{moves}
use Rattle.language.proofs.Columns.Bounds.{held_bounds}
use Rattle.language.proofs.Chart.Theorem.{chart_theorem}
use Rattle.language.proofs.Order.Items.{items_theorem}
use Rattle.worked.specs.Examples.{Shows, FirstMoves}
use Rattle.worked.proofs.Check.{any, every, has}
use Rattle.worked.proofs.Corners.{swept, sweeps, corners, closed_under, cornered}
use Rattle.worked.proofs.Items.{ended, spanned, wanting, wants, begun, advanced, follows, derived}
use Rattle.worked.proofs.Closed.{all_below, implies, same_item, listed, closed_item, closed_items, corners_listed, closed_next, closed}
use Rattle.worked.proofs.Shown.{apart, exact, lit, whole, items_shown, lit_shown, whole_shown, not_whole, among, spans}
use Rattle.worked.proofs.Chosen.{fitting, matched, reading, reading_reads, listed_item, lowest, earliest, chosen, lowest_held, chosen_held}
use Rattle.worked.proofs.Sound.{is_part, known, rule_fits, letter, spelled, form_fits, counts_fit, rules_fit, forms_fit, well_formed, turned, produced, productives, all_productive, unit_closed, acyclic}

module _ (m : Meaning) (sound : Sound m) (ws : List Word) (ts : List Item) (Ns : List (List ℕ)) (cs : List ℕ) where
  some_symbols : (r : ℕ) → Numbered m.grammar r → 1 ≤ size m.grammar r
  some_symbols r n = (sound.formed.rules r n).some_symbols

  pub shows : exact m.grammar ws ts Ns cs ≡ true → lit m.grammar ws ts Ns cs ≡ true → Shows m.grammar ws ts cs
  shows e l = record { items = items_shown m.grammar ws ts Ns cs some_symbols e; lit = lit_shown m.grammar ws ts Ns cs some_symbols e l }

  pub is_whole : exact m.grammar ws ts Ns cs ≡ true → whole m.grammar ws ts Ns cs ≡ true → Programme m.grammar ws
  is_whole e h = (chart_theorem m sound ws).whole.0 (whole_shown m.grammar ws ts Ns cs some_symbols e h)

  pub is_short : exact m.grammar ws ts Ns cs ≡ true → whole m.grammar ws ts Ns cs ≡ false → Programme m.grammar ws → ⊥
  is_short e h p = not_whole m.grammar ws ts Ns cs some_symbols e h ((chart_theorem m sound ws).whole.1 p)

  -- the tree by rule r is a reading of the words, and is chosen by the items
  unfoldable pub first_test : ℕ → Children → Bool
  first_test r ks = reading m.grammar m.grammar.start (between 0 (length ws) ws) r ks && (lowest m.grammar ws ts r 0 (length ws) && chosen m.grammar ws ts r 0 ks)

  pub first_moves : exact m.grammar ws ts Ns cs ≡ true → (r : ℕ) (ks : Children) → first_test r ks ≡ true
      → FirstMoves m.grammar (between 0 (length ws) ws) (moves r ks)
  unfolding first_test reading_reads
  first_moves e r ks h =
      let g = m.grammar in
      let p = and_parts (reading g g.start (between 0 (length ws) ws) r ks) _ h in
      let q = and_parts (lowest g ws ts r 0 (length ws)) (chosen g ws ts r 0 ks) p.1 in
      let t = reading_reads g g.start (between 0 (length ws) ws) r ks p.0 in
      let bounds = held_bounds g ws some_symbols in
      let inside = among g ws ts Ns cs some_symbols e in
      let spanning = spans g ws ts Ns cs some_symbols e in
      let low = lowest_held g ws ts bounds inside spanning r 0 (length ws) q.0 in
      let choice = chosen_held g ws ts bounds inside spanning r 0 ks q.1 in
      record {
        first = record { reads = t; least = (items_theorem m sound ws g.start 0 (length ws) (first g.start self) (le_refl (length ws)) t).1 (low, choice) };
        are = refl;
      }

-- a proof that names this one computes with every test
unfoldable pub tests : Bool
unfolding first_test rule form any every has swept sweeps corners closed_under cornered ended spanned wanting wants begun advanced follows derived all_below implies same_item listed closed_item closed_items corners_listed closed_next closed apart exact lit whole fitting matched reading listed_item lowest earliest chosen is_part known rule_fits letter spelled form_fits counts_fit rules_fit forms_fit well_formed turned produced productives all_productive unit_closed acyclic
tests = true
