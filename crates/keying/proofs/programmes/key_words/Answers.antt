use Rattle.std.proofs.Common.{rules, ◌≡◌, ◌+◌, ◌*◌, ◌<◌, length, get_or, string_bytes, ap, ◌∙◌, arith, subst}
use Rattle.dialogue.specs.Calls.{answers_in}
use Rattle.keying.specs.Keyed.{piece_word}
use Rattle.keying.proofs.Running.{answered_to, answer_read}
use Rattle.keying.proofs.Going.{Going, going_first, going_on, going_refused}
use Rattle.keying.proofs.Ending.{going_last}
use Rattle.keying.proofs.programmes.key_words.Goals as goal

pub loop-place-init : goal.loop-place-init
loop-place-init c = λ run. going_first _ _ _ run _ c.new-said.ensures.bytes

pub index-requires : goal.index-requires
index-requires c =
    let inside : c.loop-place.place < length c.args.programme.now.words.items = search (rules, c.loop-place-test.true) in
    answered_to c.args.book.now (piece_word _) _ _ c.in_ok-exchanges.ensures _ c.in_ok-exchanges.exchanges.ok.0 _ (omega (arith, inside))

pub index-requires-in-loop-place : goal.index-requires-in-loop-place
index-requires-in-loop-place c =
    let inside : c.loop-place.place < length c.args.programme.now.words.items = search (rules, c.loop-place-test.true) in
    answered_to c.args.book.now (piece_word _) _ _ c.in_ok-exchanges.ensures _ c.in_ok-exchanges.exchanges.ok.0 _ (omega (arith, inside))

pub returns-in-Some : goal.returns-in-Some
returns-in-Some c =
    let run = c.in_ok-exchanges.ensures in
    let pressed = answer_read c.in_ok-exchanges.exchanges.items (2 * c.loop-place.place) c.index.result.now c.index.ensures in
    going_refused _ _ _ run c.loop-place.place (search (rules, c.loop-place-test.true)) _ pressed _ (c.loop-place.invariant run) _ c.in-Some.fault c.in-Some.ensures _ (search rules)

pub loop-place-preserved : goal.loop-place-preserved
loop-place-preserved c = λ run.
    let pressed = answer_read c.in_ok-exchanges.exchanges.items (2 * c.loop-place.place) c.index.result.now c.index.ensures in
    let lit = answer_read c.in_ok-exchanges.exchanges.items (2 * c.loop-place.place + 1) c.index-in-loop-place.result.now c.index-in-loop-place.ensures in
    going_on _ _ _ run c.loop-place.place (search (rules, c.loop-place-test.true)) _ pressed _ (c.loop-place.invariant run) _ lit c.in_default.ensures (string_bytes c.in_ok-word_said.field-0) c.in_ok-word_said.ensures _ (search rules)

pub index-requires-2 : goal.index-requires-2
index-requires-2 c =
    let all : c.len-words.result ≡ length c.args.programme.now.words.items = search rules in
    answered_to c.args.book.now (piece_word _) _ _ c.in_ok-exchanges.ensures _ c.in_ok-exchanges.exchanges.ok.0 _ (omega (arith, all))

pub returns : goal.returns
returns c =
    let run = c.in_ok-exchanges.ensures in
    let n = length c.args.programme.now.words.items in
    let all : c.loop-place.place ≡ n = search (rules, c.loop-place.auto, c.loop-place-test) in
    let many : c.len-words.result ≡ n = search rules in
    let so_far : Going _ _ _ run n (string_bytes c.loop-place.said) = subst (λ k. Going _ _ _ run k (string_bytes c.loop-place.said)) all (c.loop-place.invariant run) in
    let read = answer_read c.in_ok-exchanges.exchanges.items (2 * c.len-words.result) c.index-2.result.now c.index-2.ensures in
    going_last _ _ _ run _ so_far _ c.index-2.result.now.answer _ (read ∙ ap (λ k. get_or (answers_in c.in_ok-exchanges.exchanges.items) (2 * k) c.index-2.result.now.answer) many) c.in_ok-last_line.ensures _ (search rules)
