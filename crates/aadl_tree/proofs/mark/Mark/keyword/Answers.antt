use Rattle.std.proofs.Common.{◌≡◌, ◌∙◌, ap, sym}
use Rattle.std.specs.List.{find}
use Rattle.std.specs.Str.{str_eq_ignore_ascii_case}
use Rattle.aadl_tree.specs.KeywordsAndSymbols.{mark_text}
use Rattle.aadl_tree.specs.proof.MarksByFirstByte.{keywords_from}
use Rattle.aadl_tree.proofs.MarksByFirstByte.{keyword_kept, no_keyword, some_bytes}
use Rattle.aadl_tree.proofs.mark.Mark.keyword.Goals as goal
use Rattle.aadl_tree.proofs.mark.Mark.keyword.Goals.{then-inside, else-inside}

pub returns : goal.returns
returns c =
    let from : c.if-inside.marks.now ≡ keywords_from c.args.inside c.to_ascii_lowercase-letter.result =
    elim c.if-inside.branch [
      | then-inside w ↦ (let e = w.marks-is in let f = w.keywords_inside-marks.ensures in
          let g = w.if-inside.true in cc)
      | else-inside w ↦ (let e = w.marks-is in let f = w.keywords_outside-marks.ensures in
          let g = w.if-inside.false in cc)
    ] in
    let letter = ap (keywords_from c.args.inside) c.to_ascii_lowercase-letter.ensures.value in
    c.spelled_as.ensures ∙ ap (find (λ m. str_eq_ignore_ascii_case c.args.word.now (mark_text m))) (from ∙ letter)
    ∙ sym (keyword_kept c.args.inside c.args.word.now (some_bytes _ (sym c.is_empty.ensures ∙ c.if-is_empty.false)))

pub returns-then-is_empty : goal.returns-then-is_empty
returns-then-is_empty c = sym (no_keyword c.args.inside c.args.word.now (sym c.is_empty.ensures ∙ c.if-is_empty.true))
