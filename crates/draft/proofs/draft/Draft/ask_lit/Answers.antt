use Rattle.std.proofs.Common.{false, refl, ◌∙◌, subst}
use Rattle.std.proofs.lemmas.Bool.{both_ways}
use Rattle.rulebook.specs.declared.faults.Fault.TheVariants.{DarkWord}
use Rattle.wording.specs.Sets.{word_of}
use Rattle.draft.specs.Questions.{IsLit, IsDark}
use Rattle.draft.specs.States.{DraftState}
use Rattle.draft.proofs.Answering.{dark_seen, lit_word}
use Rattle.draft.proofs.draft.Draft.ask_lit.Goals as goal

pub returns-then-is_empty : goal.returns-then-is_empty
returns-then-is_empty g c =
    let w = word_of (g.W.Word.tells c.args.word.now) in
    subst (λ (d : DraftState). IsDark d w (DarkWord c.from-held.result)) c.self.view_is
    (dark_seen c.self.inside.chart c.self.invariant w c.lit_keys.result c.lit_keys.ensures.keys c.of-matched.result c.of-matched.ensures c.keys.result c.keys.ensures c.common.result c.common.ensures c.from-held.result (c.from-held.ensures ∙ c.held.ensures.held) (c.if-is_empty.ensures.0 refl))

pub returns : goal.returns
returns g c =
    let w = word_of (g.W.Word.tells c.args.word.now) in
    subst (λ (d : DraftState). IsLit d w c.of-matched.result) c.self.view_is
    (lit_word c.self.inside.chart c.self.invariant w c.lit_keys.result c.lit_keys.ensures.keys c.of-matched.result c.of-matched.ensures c.keys.result c.keys.ensures c.common.result c.common.ensures
    (λ none. both_ways false refl (c.if-is_empty.ensures.1 none)))
