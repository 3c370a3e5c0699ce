use Rattle.std.proofs.Common.{◌+◌, ◌-◌, ◌*◌, length, refl, ap, ◌∙◌, arith}
use Rattle.soundbook.specs.Sounds.{sound_meaning}
use Rattle.booktext.specs.Written.{rule_line, key_line, rules_text, keys_text}
use Rattle.booktext.proofs.Again.{fitting, each_form}
use Rattle.booktext.proofs.Filled.{filled_all, rule_length, key_length}
use Rattle.booktext.proofs.Formed.{stands}
use Rattle.booktext.proofs.writes.write.Goals as goal

pub returns : goal.returns
unfolding rules_text keys_text
returns c =
    let book = c.args.book.now in
    let m = sound_meaning book in
    let g = m.grammar in
    let rules = c.set_lines.ensures (rule_line g) (record { line = λ n l h (b, is, same). is ∙ ap (λ s. rule_line (sound_meaning s).grammar n) same; wide = rule_length g }) in
    let keys = c.set_lines-2.ensures (key_line m.forms) (record { line = λ n l h (b, is, same). is ∙ ap (λ s. key_line (sound_meaning s).forms n) same; wide = key_length m.forms }) in
    stands m c.args.space.now c.put.new.space c.set_lines.new.space c.set_lines-2.new.space c.head_line.result c.written_len-len.result
    c.written_len-len.ensures (fitting m book.sound) (each_form book.table) (omega arith) c.head_line.ensures c.put.ensures
    (filled_all (rule_line g) c.put.new.space c.set_lines.new.space 34 34 1 (1 + c.rules.result - 1) (length g.rules) rules refl (omega (arith, c.rules.ensures)))
    (filled_all (key_line m.forms) c.set_lines.new.space c.set_lines-2.new.space (34 * (1 + c.from-top.result)) (34 * (1 + length g.rules)) 33 (33 + c.keys.result - 33) g.keys keys (omega (arith, c.from-top.ensures, c.rules-2.ensures)) (omega (arith, c.keys.ensures.count)))
