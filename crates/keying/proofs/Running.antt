-- A run that keys in words, as the call that made it tells of it.
use Rattle.std.proofs.Common.{◌≡◌, ℕ, ◌*◌, ◌<◌, ◌≤◌, List, ◌++◌, map, length, get_or, take, drop, arith, sym, ap, ◌∙◌, subst}
use Rattle.std.proofs.Math.ListN.{drop_of_length-le, get_or-map}
use Rattle.std.proofs.lemmas.List.{append-nil, length-map, take_all}
use Rattle.language.specs.Words.{Word}
use Rattle.language.specs.Readings.{Item as Told}
use Rattle.soundbook.specs.declared.sounds.SoundBook.{SoundBook}
use Rattle.chart.specs.Items.{told}
use Rattle.chart.specs.declared.items.Item.{Item}
use Rattle.dialogue.specs.Calls.{answers_in}
use Rattle.dialogue.specs.Runs.{RunLaw}
use Rattle.dialogue.specs.declared.calls.Call.{Call}
use Rattle.dialogue.specs.declared.calls.Answer.{Answer}
use Rattle.dialogue.specs.declared.calls.Exchange.{Exchange}
use Rattle.keying.specs.Keyed.{keying, KeyedRun}
use Rattle.keying.proofs.Calling.{keying_many}

pub run_of : (b : SoundBook) (ws : List Word) (chart : List Item) (strip : List ℕ) (calls : List (Call Word)) (answers : List Answer) (places : List Told) (left : List ℕ) → length chart ≡ 8000 → length strip ≡ 12836 → calls ≡ keying ws → RunLaw b (map told chart) strip calls answers places left → KeyedRun b ws answers
run_of b ws chart strip calls answers places left many long is law = record {
  lent = map told chart;
  many = length-map chart told ∙ many;
  strip = strip;
  long = long;
  places = places;
  left = left;
  law = subst (λ cs. RunLaw b (map told chart) strip cs answers places left) is law;
}

-- two answers for each word, and one more, can be read
pub answered_to : {W X : Type 0} (b : SoundBook) (f : X → Word) (xs : List X) (es : List (Exchange W)) → KeyedRun b (map f xs) (answers_in es) → (n : ℕ) → n ≡ length es → (k : ℕ) → k ≤ 2 * length xs → k < n
answered_to {W} b f xs es run n long k low =
    let calls = keying_many f xs in
    omega (arith, run.law.answered, calls, long, low, length-map es (λ (e : Exchange W). e.answer))

-- a list that was lent as a slice comes back as it was left
pub all_back : {X : Type 0} (n : ℕ) (old new : List X) → n ≡ length old → length new ≡ length old → take n (new ++ drop (length new) old) ≡ new
all_back n old new long same =
    ap (λ xs. take n (new ++ xs)) (drop_of_length-le old (omega (arith, same)))
    ∙ (ap (take n) (append-nil new) ∙ take_all n new (omega (arith, long, same)))

-- an answer that is read with its call is the answer of that number
pub answer_read : {W : Type 0} (es : List (Exchange W)) (k : ℕ) (x : Exchange W) → x ≡ get_or es k x → x.answer ≡ get_or (answers_in es) k x.answer
answer_read {W} es k x is = ap (λ (e : Exchange W). e.answer) is ∙ sym (get_or-map (λ (e : Exchange W). e.answer) es k x)
