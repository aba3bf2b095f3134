use Rattle.std.proofs.Common.{◌≡◌, ◌+◌, ◌++◌, ◌∷◌, suc, length, drop, ap, ◌∙◌, rules}
use Rattle.std.specs.Prelude.{min}
use Rattle.pals_model.specs.RoundTexts.{text_of}
use Rattle.trace_audit.proofs.TextLines.{first_of, next_place, next_text, next_within}
use Rattle.trace_audit.proofs.row_text.RowText.take_line.Goals as goal

pub returns-clause-left : goal.returns-clause-left
returns-clause-left c shown lines has is =
    let text = c.args.self.now.text.items in
    let place = c.args.self.now.place in
    let rest = text_of lines in
    let begins : drop place text ≡ shown ++ 10 ∷ rest = first_of (drop place text) shown lines has.text in
    let n : c.line_length-length.result ≡ length shown =
    c.line_length-length.ensures.value shown rest is (c.rest.ensures ∙ begins) in
    let long : c.len.result ≡ length text = search rules in
    let next : c.min-self.result ≡ place + suc (length shown) =
    next_place text shown rest place c.line_length-length.result c.min-self.result has.within begins n
    (c.min-self.ensures ∙ ap (min (place + c.line_length-length.result + 1)) long) in
    record {
      within = next_within text shown rest place c.min-self.result has.within begins next;
      text = next_text text shown rest place c.min-self.result begins next;
    }
