use Rattle.std.proofs.Common.{inl, inr, ◌≡◌, ◌∷◌, [], ap, ◌∙◌, sym, subst, arith}
use Rattle.std.proofs.lemmas.Bool.Decides.{nat_tests}
use Rattle.pals_top.specs.CommandWords.{is_plain, command_of_words, rooted_command, IsRead}
use Rattle.pals_top.proofs.CommandWords.{form_rooted, form_none, form_unplain, form_long, is_same, no_items, two_items}
use Rattle.pals_top.proofs.CommandWords.{three_items}
use Rattle.pals_top.proofs.command_line.read_words.Goals.{in_default-via-then-words-lt1}
use Rattle.pals_top.proofs.command_line.read_words.Goals.{in_default-via-in-len2+else-is_plain}
use Rattle.pals_top.proofs.command_line.read_words.Goals.{in_default-via-in-len3-4+else-is_plain-2}
use Rattle.pals_top.proofs.command_line.read_words.Goals.{in_default-via-in-len3-4+then-is_plain-2+else-is_plain-3}
use Rattle.pals_top.proofs.command_line.read_words.Goals.{in_default-via-in-len3-4+then-is_plain-2+then-is_plain-3+else-is_plain-4}
use Rattle.pals_top.proofs.command_line.read_words.Goals.{in_default-via-else-words-lt1+else-words-lt2+else-words-lt3+else-words-lt4}
use Rattle.pals_top.proofs.command_line.read_words.Goals as goal

pub returns-in-len2 : goal.returns-in-len2
returns-in-len2 c =
    let word = c.word-item-then-words-lt3.result in
    let root = c.root-item.result in
    let words : c.args.words.now ≡ word ∷ root ∷ [] =
    two_items _ _ _ c.in-len2.len_at_least c.in-len2.len_below c.word-item-then-words-lt3.is c.root-item.is in
    let same : command_of_words c.args.words.now ≡ rooted_command word root = ap command_of_words words
    ∙ form_rooted word root (sym c.is_plain.ensures ∙ c.if-is_plain.true) in
    subst (λ o. IsRead o c.rooted.result) (sym same) c.rooted.ensures

pub returns-in_default : goal.returns-in_default
returns-in_default c = elim c.in_default.branch [
  | in_default-via-then-words-lt1 w ↦ ap command_of_words (no_items c.args.words.now (grind (arith, nat_tests)))
  | in_default-via-in-len2+else-is_plain w ↦
      let word = w.word-item-then-words-lt3.result in
      let root = w.root-item.result in
      let words : c.args.words.now ≡ word ∷ root ∷ [] =
      two_items _ _ _ w.in-len2.len_at_least w.in-len2.len_below w.word-item-then-words-lt3.is w.root-item.is in
      ap command_of_words words ∙ form_none word root (sym w.is_plain.ensures ∙ w.if-is_plain.false)
  | in_default-via-in-len3-4+else-is_plain-2 w ↦
      let first = w.first-item.result in
      let second = w.second-item-then-words-lt4.result in
      let third = w.third-item-then-words-lt4-2.result in
      let words : c.args.words.now ≡ first ∷ second ∷ third ∷ [] =
      three_items _ _ _ _ w.in-len3.len_at_least w.in-len3.len_below w.first-item.is w.second-item-then-words-lt4.is
      w.third-item-then-words-lt4-2.is in
      ap command_of_words words
      ∙ form_unplain first second third (sym w.is_flag.ensures ∙ w.if-is_flag.false)
      (sym w.is_flag-then-words-lt4.ensures ∙ w.if-is_flag-2.false)
      (sym w.is_flag-then-words-lt4-2.ensures ∙ w.if-is_flag-3.false)
      (inl (is_same is_plain 0 w.word-item-then-words-lt4.is words
      (sym w.is_plain-then-words-lt4.ensures ∙ w.if-is_plain-2.false)))
  | in_default-via-in-len3-4+then-is_plain-2+else-is_plain-3 w ↦
      let first = w.first-item.result in
      let second = w.second-item-then-words-lt4.result in
      let third = w.third-item-then-words-lt4-2.result in
      let words : c.args.words.now ≡ first ∷ second ∷ third ∷ [] =
      three_items _ _ _ _ w.in-len3.len_at_least w.in-len3.len_below w.first-item.is w.second-item-then-words-lt4.is
      w.third-item-then-words-lt4-2.is in
      ap command_of_words words
      ∙ form_unplain first second third (sym w.is_flag.ensures ∙ w.if-is_flag.false)
      (sym w.is_flag-then-words-lt4.ensures ∙ w.if-is_flag-2.false)
      (sym w.is_flag-then-words-lt4-2.ensures ∙ w.if-is_flag-3.false)
      (inr (inl (is_same is_plain 1 w.nodes-item.is words
      (sym w.is_plain-then-is_plain-2.ensures ∙ w.if-is_plain-3.false))))
  | in_default-via-in-len3-4+then-is_plain-2+then-is_plain-3+else-is_plain-4 w ↦
      let first = w.first-item.result in
      let second = w.second-item-then-words-lt4.result in
      let third = w.third-item-then-words-lt4-2.result in
      let words : c.args.words.now ≡ first ∷ second ∷ third ∷ [] =
      three_items _ _ _ _ w.in-len3.len_at_least w.in-len3.len_below w.first-item.is w.second-item-then-words-lt4.is
      w.third-item-then-words-lt4-2.is in
      ap command_of_words words
      ∙ form_unplain first second third (sym w.is_flag.ensures ∙ w.if-is_flag.false)
      (sym w.is_flag-then-words-lt4.ensures ∙ w.if-is_flag-2.false)
      (sym w.is_flag-then-words-lt4-2.ensures ∙ w.if-is_flag-3.false)
      (inr (inr (is_same is_plain 2 w.rounds-item.is words
      (sym w.is_plain-then-is_plain-3.ensures ∙ w.if-is_plain-4.false))))
  | in_default-via-else-words-lt1+else-words-lt2+else-words-lt3+else-words-lt4 w ↦
      form_long c.args.words.now (grind (arith, nat_tests))
]
