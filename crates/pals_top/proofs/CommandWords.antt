-- Which command the words of a command line are, by how many words there are and which of them are flags.
use Rattle.std.proofs.Common.{◌≡◌, ◌⊎◌, inl, inr, ℕ, ◌+◌, ◌<◌, ◌≤◌, Bool, true, false, not, nat_eq, suc, ◌&&◌, ◌||◌}
use Rattle.std.proofs.Common.{cond, List, [], ◌∷◌, length, codes, bytes_eq, get_or, Option, None, refl, sym, ap, ◌∙◌}
use Rattle.std.proofs.Common.{arith}
use Rattle.std.specs.List.{list_all}
use Rattle.std.proofs.lemmas.Bool.{eqb-true, true≢false}
use Rattle.std.proofs.lemmas.Slice.Eq.{bytes_eq-Decides}
use Rattle.pals_runs.specs.declared.commands.Command.{Command}
use Rattle.pals_top.specs.CommandWords.{is_plain, is_flag, flags, plain_words, rooted_command, plain_command}
use Rattle.pals_top.specs.CommandWords.{command_by}
use Rattle.pals_top.specs.CommandWords.{command_of_words}

-- ---- flags
either : (w x y : List ℕ) → (bytes_eq w x || bytes_eq w y) ≡ true → is_plain x ≡ false → is_plain y ≡ false
    → is_plain w ≡ false
either w x y e px py =
    by-cases (bytes_eq w x) (bytes_eq w y) e (λ t. ap is_plain ((bytes_eq-Decides w x).0 t) ∙ px)
    (λ t. ap is_plain ((bytes_eq-Decides w y).0 t) ∙ py) where
      by-cases : (a b : Bool) → (a || b) ≡ true → (a ≡ true → is_plain w ≡ false) → (b ≡ true → is_plain w ≡ false)
          → is_plain w ≡ false
      by-cases true b e p q = p refl
      by-cases false b e p q = q e

-- a flag is not a plain word
flag_begins : (w : List ℕ) → is_flag w ≡ true → is_plain w ≡ false
flag_begins w e = either w (codes "--loose") (codes "--trace") e refl refl

-- and is not a command with a root
begins : (c : ℕ) → not (nat_eq c 45) ≡ false → nat_eq c 45 ≡ true
begins c e = not-false (nat_eq c 45) e where
  not-false : (b : Bool) → not b ≡ false → b ≡ true
  not-false true e = refl
  not-false false e = absurd (true≢false e)

flag_alone : (word root : List ℕ) → is_plain word ≡ false → rooted_command word root ≡ None
flag_alone [] root e = absurd (true≢false e)
flag_alone (c ∷ cs) root e = ap (λ b. rooted_command (b ∷ cs) root) (eqb-true c 45 (begins c e))

-- ---- words by which of them are flags
abbrev kept : Bool → List ℕ → List (List ℕ) → List (List ℕ)
kept keep w rest = cond keep (w ∷ rest) rest

abbrev by_parts : List (List ℕ) → List (List ℕ) → Option Command
by_parts plain chosen = cond (list_all is_plain plain) (command_by plain chosen) None

abbrev two : Bool → Bool → List ℕ → List ℕ → Option Command
two x y a b = by_parts (kept (not x) a (kept (not y) b [])) (kept x a (kept y b []))

abbrev three : Bool → Bool → Bool → List ℕ → List ℕ → List ℕ → Option Command
three x y z a b c = by_parts (kept (not x) a (kept (not y) b (kept (not z) c []))) (kept x a (kept y b (kept z c [])))

-- no command either way
idle : (p : Bool) (command : Option Command) → command ≡ None → cond p command None ≡ None
idle true command e = e
idle false command e = refl

-- ---- two words
rooted_by : (x y : Bool) (a b : List ℕ) → is_flag a ≡ x → is_flag b ≡ y → is_plain b ≡ true
    → two x y a b ≡ rooted_command a b
rooted_by x true a b ex ey plain = absurd (true≢false (sym plain ∙ flag_begins b ey))
rooted_by true false a b ex ey plain =
    idle (list_all is_plain (b ∷ [])) (command_by (b ∷ []) (a ∷ [])) refl ∙ sym (flag_alone a b (flag_begins a ex))
rooted_by false false a b ex ey plain =
    both (is_plain a) (is_plain b) (rooted_command a b) plain (λ e. flag_alone a b e) where
      both : (first second : Bool) (command : Option Command) → second ≡ true → (first ≡ false → command ≡ None)
          → cond (first && (second && true)) command None ≡ command
      both true true command e none = refl
      both true false command e none = absurd (true≢false (sym e))
      both false second command e none = sym (none refl)

pub form_rooted : (a b : List ℕ) → is_plain b ≡ true → command_of_words (a ∷ b ∷ []) ≡ rooted_command a b
form_rooted a b plain = rooted_by (is_flag a) (is_flag b) a b refl refl plain

none_by : (x y : Bool) (a b : List ℕ) → is_plain b ≡ false → two x y a b ≡ None
none_by true true a b plain = refl
none_by false true a b plain = idle (list_all is_plain (a ∷ [])) (command_by (a ∷ []) (b ∷ [])) refl
none_by true false a b plain = ap (λ p. cond (p && true) (command_by (b ∷ []) (a ∷ [])) None) plain
none_by false false a b plain =
    ap (λ p. cond (is_plain a && (p && true)) (rooted_command a b) None) plain
    ∙ nothing (is_plain a) (rooted_command a b) where
      nothing : (p : Bool) (command : Option Command) → cond (p && (false && true)) command None ≡ None
      nothing true command = refl
      nothing false command = refl

pub form_none : (a b : List ℕ) → is_plain b ≡ false → command_of_words (a ∷ b ∷ []) ≡ None
form_none a b plain = none_by (is_flag a) (is_flag b) a b plain

-- ---- three words, none of which is a flag
unflagged : (x y z : Bool) (a b c : List ℕ) → x ≡ false → y ≡ false → z ≡ false
    → three x y z a b c ≡ by_parts (a ∷ b ∷ c ∷ []) []
unflagged false false false a b c ex ey ez = refl
unflagged true y z a b c ex ey ez = absurd (true≢false ex)
unflagged false true z a b c ex ey ez = absurd (true≢false ey)
unflagged false false true a b c ex ey ez = absurd (true≢false ez)

-- all of them plain, or not
plain_by : (x y z : Bool) (command : Option Command) → x ≡ true → y ≡ true → z ≡ true
    → cond (x && (y && (z && true))) command None ≡ command
plain_by true true true command ex ey ez = refl
plain_by false y z command ex ey ez = absurd (true≢false (sym ex))
plain_by true false z command ex ey ez = absurd (true≢false (sym ey))
plain_by true true false command ex ey ez = absurd (true≢false (sym ez))

unplain_by : (x y z : Bool) (command : Option Command) → (x ≡ false) ⊎ ((y ≡ false) ⊎ (z ≡ false))
    → cond (x && (y && (z && true))) command None ≡ None
unplain_by false y z command some = refl
unplain_by true false z command some = refl
unplain_by true true false command some = refl
unplain_by true true true command (inl e) = absurd (true≢false e)
unplain_by true true true command (inr (inl e)) = absurd (true≢false e)
unplain_by true true true command (inr (inr e)) = absurd (true≢false e)

module _ (a b c : List ℕ) (ea : is_flag a ≡ false) (eb : is_flag b ≡ false) (ec : is_flag c ≡ false) where
  pub form_three : is_plain a ≡ true → is_plain b ≡ true → is_plain c ≡ true
      → command_of_words (a ∷ b ∷ c ∷ []) ≡ plain_command (a ∷ b ∷ c ∷ [])
  form_three pa pb pc =
      unflagged (is_flag a) (is_flag b) (is_flag c) a b c ea eb ec
      ∙ plain_by (is_plain a) (is_plain b) (is_plain c) (plain_command (a ∷ b ∷ c ∷ [])) pa pb pc

  pub form_unplain : (is_plain a ≡ false) ⊎ ((is_plain b ≡ false) ⊎ (is_plain c ≡ false))
      → command_of_words (a ∷ b ∷ c ∷ []) ≡ None
  form_unplain some =
      unflagged (is_flag a) (is_flag b) (is_flag c) a b c ea eb ec
      ∙ unplain_by (is_plain a) (is_plain b) (is_plain c) (plain_command (a ∷ b ∷ c ∷ [])) some

-- ---- four words or more
one_more : (x : Bool) (w : List ℕ) (plain chosen : List (List ℕ)) (n : ℕ) → length plain + length chosen ≡ n
    → length (kept (not x) w plain) + length (kept x w chosen) ≡ suc n
one_more true w plain chosen n e = omega arith
one_more false w plain chosen n e = omega arith

counts : (words : List (List ℕ)) → length (plain_words words) + length (flags words) ≡ length words
counts [] = refl
counts (w ∷ words) = one_more (is_flag w) w (plain_words words) (flags words) (length words) (counts words)

no_form : (plain chosen : List (List ℕ)) → 4 ≤ length plain + length chosen → command_by plain chosen ≡ None
no_form [] [] many = absurd (omega arith)
no_form (a ∷ []) [] many = absurd (omega arith)
no_form (a ∷ b ∷ []) [] many = absurd (omega arith)
no_form (a ∷ b ∷ c ∷ []) [] many = absurd (omega arith)
no_form (a ∷ b ∷ c ∷ d ∷ plain) [] many = refl
no_form [] (f ∷ []) many = absurd (omega arith)
no_form (a ∷ []) (f ∷ []) many = absurd (omega arith)
no_form (a ∷ b ∷ []) (f ∷ []) many = absurd (omega arith)
no_form (a ∷ b ∷ c ∷ plain) (f ∷ []) many = refl
no_form plain (f ∷ g ∷ chosen) many = refl

pub form_long : (words : List (List ℕ)) → 4 ≤ length words → command_of_words words ≡ None
form_long words many =
    let count = counts words in
    idle (list_all is_plain (plain_words words)) (command_by (plain_words words) (flags words))
    (no_form (plain_words words) (flags words) (omega (arith, many, count)))

-- ---- lists by their length
pub no_items : {A : Type 0} (xs : List A) → length xs < 1 → xs ≡ []
no_items [] e = refl
no_items (x ∷ xs) e = absurd (omega arith)

pub two_items : {A : Type 0} (xs : List A) (a b : A) → 2 ≤ length xs → length xs < 3 → a ≡ get_or xs 0 a
    → b ≡ get_or xs 1 b → xs ≡ a ∷ b ∷ []
two_items [] a b least most first second = absurd (omega arith)
two_items (x ∷ []) a b least most first second = absurd (omega arith)
two_items (x ∷ y ∷ []) a b least most first second = cc
two_items (x ∷ y ∷ z ∷ zs) a b least most first second = absurd (omega arith)

pub three_items : {A : Type 0} (xs : List A) (a b c : A) → 3 ≤ length xs → length xs < 4 → a ≡ get_or xs 0 a
    → b ≡ get_or xs 1 b → c ≡ get_or xs 2 c → xs ≡ a ∷ b ∷ c ∷ []
three_items [] a b c least most e1 e2 e3 = absurd (omega arith)
three_items (x ∷ []) a b c least most e1 e2 e3 = absurd (omega arith)
three_items (x ∷ y ∷ []) a b c least most e1 e2 e3 = absurd (omega arith)
three_items (x ∷ y ∷ z ∷ []) a b c least most e1 e2 e3 = cc
three_items (x ∷ y ∷ z ∷ w ∷ ws) a b c least most e1 e2 e3 = absurd (omega arith)

-- a test of the item at a place has the same result for the item that the list shows there
pub is_same : {A : Type 0} (test : A → Bool) (k : ℕ) {xs ys : List A} {item : A} {b : Bool} → item ≡ get_or xs k item
    → xs ≡ ys → test item ≡ b
    → test (get_or ys k item) ≡ b
is_same test k {item = item} is same says = ap test (sym (is ∙ ap (λ zs. get_or zs k item) same)) ∙ says
