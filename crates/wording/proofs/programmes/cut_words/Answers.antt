use Rattle.std.proofs.Common.{length, vec_items, sym, refl, ap, ◌∙◌, subst}
use Rattle.wording.specs.Pieces.{PieceTaken, PieceRefused, Shows}
use Rattle.wording.specs.Programmes.{Stopped, WordsBefore}
use Rattle.wording.specs.Runs.{bytes_in}
use Rattle.wording.proofs.Cutting.{shown_some, words_to, words_more, some_word, no_word, refused_some}
use Rattle.wording.proofs.programmes.cut_words.Goals as goal

pub returns-in-End : goal.returns-in-End
returns-in-End c =
    let taken = subst (λ t. PieceTaken t c.loop-word.cutter.at c.next_piece.new.self.at c.in-Ok.word) c.loop-word.invariant.0 c.in-Ok.ensures.piece in
    let none = ap length (subst (Shows (bytes_in c.args.cutter.text.now c.in-Ok.word.place c.next_piece.new.self.at)) c.in-End.is taken.shows) in
    (c.args.cutter.short, subst (λ n. WordsBefore c.args.cutter.text.now n (vec_items c.loop-word.words)) (no_word _ _ _ _ taken.next none) (words_to _ _ _ _ taken.next _ c.loop-word.invariant.1))

pub loop-word-preserved : goal.loop-word-preserved
loop-word-preserved c =
    let taken = subst (λ t. PieceTaken t c.loop-word.cutter.at c.next_piece.new.self.at c.in-Ok.word) c.loop-word.invariant.0 c.in-Ok.ensures.piece in (
      ap (λ x. x.now) c.in-Ok.ensures.text ∙ c.loop-word.invariant.0,
      subst (WordsBefore c.args.cutter.text.now c.next_piece.new.self.at) (sym c.in_ok-push-in-Name.ensures.items)
          (words_more _ _ _ _ taken.next _ c.loop-word.invariant.1 (some_word _ _ _ _ taken.next (shown_some _ _ taken.shows c.in-Name.is)) c.in-Ok.word refl taken.shows),
    )

pub returns-in-Err : goal.returns-in-Err
returns-in-Err c =
    let refused = subst (λ t. PieceRefused t c.loop-word.cutter.at c.in-Err.fault) c.loop-word.invariant.0 c.in-Err.ensures.piece.1 in
    Stopped.word refused.from refused.past c.args.cutter.short (words_to _ _ _ _ refused.next _ c.loop-word.invariant.1)
    (some_word _ _ _ _ refused.next (refused_some _ _ _ _ refused.next refused.word))
    refused.word
