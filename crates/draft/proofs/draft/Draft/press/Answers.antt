use Rattle.std.proofs.Common.{◌<◌, length, subst}
use Rattle.std.specs.Prelude.{MatchResult}
use Rattle.std.proofs.lemmas.Result.{err_from_is_err_and}
use Rattle.rulebook.specs.declared.faults.Fault.{Fault}
use Rattle.wording.specs.Sets.{word_of}
use Rattle.chart.specs.Takings.{Taken, NotTaken}
use Rattle.draft.specs.Law.{IsLawful, MatchesLit, PressTaken, PressRefused}
use Rattle.draft.specs.Questions.{WordsFull, IsDark}
use Rattle.draft.specs.States.{DraftState, grammar, words}
use Rattle.draft.specs.Views.{state_of}
use Rattle.draft.proofs.Answering.{full_press, dark_press, press_seen, stands_then}
use Rattle.draft.proofs.Showing.{shows}
use Rattle.draft.proofs.Symbols.{same_matches}
use Rattle.draft.proofs.draft.Draft.press.Goals as goal

pub returns-in_err-ask_words-clause-lawful : goal.returns-in_err-ask_words-clause-lawful
returns-in_err-ask_words-clause-lawful g c = subst IsLawful c.self.view_is (shows c.self.inside.chart c.self.invariant)

pub returns-in_err-ask_words-clause-cases : goal.returns-in_err-ask_words-clause-cases
returns-in_err-ask_words-clause-cases g c =
    let w = word_of (g.W.Word.tells c.args.word.now) in
    let p = err_from_is_err_and c.from_residual.result c.from_residual.ensures.1 in
    rw (p.1, p.2)
    (subst (λ (d : DraftState). (f : Fault) → WordsFull d f → PressRefused d d w f) c.self.view_is (full_press c.self.inside.chart c.self.invariant w) c.in_err-ask_words.field-0.0 c.in_err-ask_words.ensures)

pub returns-in_err-matched-clause-lawful : goal.returns-in_err-matched-clause-lawful
returns-in_err-matched-clause-lawful g c = subst IsLawful c.self.view_is (shows c.self.inside.chart c.self.invariant)

pub returns-in_err-matched-clause-cases : goal.returns-in_err-matched-clause-cases
returns-in_err-matched-clause-cases g c =
    let w = word_of (g.W.Word.tells c.args.word.now) in
    let p = err_from_is_err_and c.from_residual-in_err-matched.result c.from_residual-in_err-matched.ensures.1 in
    rw (p.1, p.2)
    (subst (λ (d : DraftState). (f : Fault) → length (words d) < 100 → IsDark d w f → PressRefused d d w f) c.self.view_is (dark_press c.self.inside.chart c.self.invariant w) c.in_err-matched.field-0.0 c.in_ok-ask_words.ensures c.in_err-matched.ensures)

pub returns-clause-lawful : goal.returns-clause-lawful
returns-clause-lawful g c = shows c.take.new.self (stands_then c.self.inside.chart c.self.invariant c.take.new.self _ c.take.result c.take.ensures)

pub returns-clause-cases : goal.returns-clause-cases
returns-clause-cases g c =
    let w = word_of (g.W.Word.tells c.args.word.now) in
    subst (λ (d : DraftState). length (words d) < 100 → MatchesLit (grammar d) (words d) w → MatchResult c.take.result (PressTaken d (state_of c.take.new.self) w) (PressRefused d (state_of c.take.new.self) w)) c.self.view_is
    (λ few lit. press_seen c.self.inside.chart c.self.invariant c.take.new.self w few lit c.take.result
    (subst (λ v. MatchResult c.take.result (Taken c.self.inside.chart c.take.new.self v) (NotTaken c.self.inside.chart c.take.new.self v)) (same_matches c.in_ok-matched.matched w c.in_ok-matched.ensures.set) c.take.ensures))
    c.in_ok-ask_words.ensures c.in_ok-matched.ensures.matches
