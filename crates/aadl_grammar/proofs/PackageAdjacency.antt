-- Any two neighbours among the terminals of a package may follow each other. For the law that canonical text is read
-- back.
use Rattle.std.proofs.Common.{◌≡◌, ℕ, Bool, true, false, not, ◌||◌, ◌==◌, refl, List, [], ◌∷◌}
use Rattle.std.proofs.lemmas.Bool.{and_from}
use Rattle.aadl_tree.specs.declared.mark.Mark.{Mark}
use Rattle.aadl_tree.specs.declared.mark.Mark.TheVariants as k
use Rattle.aadl_tree.specs.proof.MarkNumbers.{mark_number}
use Rattle.aadl_tree.specs.Terminals.{PlainTerminal}
use Rattle.aadl_grammar.specs.proof.GrammarSymbols.{Class, a_word, a_whole, a_real, a_quoted, an_unread, the, Symbol}
use Rattle.aadl_grammar.specs.proof.GrammarSymbols as s
use Rattle.aadl_grammar.specs.proof.StackMachine.{class_number, kind_number, whole_package}
use Rattle.aadl_grammar.proofs.DerivationTrees.DerivationsAndMachineSteps.{Derives}
use Rattle.aadl_grammar.proofs.AdjacencyRules.{of_class, AreNeighbours}
use Rattle.aadl_grammar.proofs.StackAdjacency.{pairs_hold, on_top, seam, Guard, Beside, guarded}
use Rattle.aadl_grammar.proofs.ParseTableAdjacency.{after_check, after_beside, after_guard, before_check, before_beside}
use Rattle.aadl_grammar.proofs.ParseTableAdjacency.{before_guard}

abbrev nothing_more : Symbol → Bool
nothing_more x = false

-- after `.`
abbrev names_one : Symbol → Bool
names_one s.identifier = true
names_one s.path = true
names_one _ = false

abbrev is_word : ℕ → Bool
is_word n = of_class n a_word

dot_marked : (m : Mark) → after_check (class_number (the k.Dot)) names_one nothing_more is_word (s.only m) ≡ true
dot_marked k.Package = refl
dot_marked _ = refl

dot_checked : (x : Symbol) → after_check (class_number (the k.Dot)) names_one nothing_more is_word x ≡ true
dot_checked (s.only m) = dot_marked m
dot_checked _ = refl

-- after `!`
abbrev tests : Symbol → Bool
tests s.test = true
tests _ = false

abbrev is_group : ℕ → Bool
is_group n = of_class n (the k.ParenOpen)

bang_marked : (m : Mark) → after_check (class_number (the k.Bang)) tests nothing_more is_group (s.only m) ≡ true
bang_marked k.Package = refl
bang_marked _ = refl

bang_checked : (x : Symbol) → after_check (class_number (the k.Bang)) tests nothing_more is_group x ≡ true
bang_checked (s.only m) = bang_marked m
bang_checked _ = refl

-- after `:`
abbrev declares : Symbol → Bool
declares s.identifier = true
declares s.direction = true
declares s.category = true
declares s.reference = true
declares s.initial = true
declares s.complete = true
declares (s.only m) = mark_number m == mark_number k.Port || mark_number m == mark_number k.State
declares _ = false

abbrev of_state : Symbol → Bool
of_state s.initial = true
of_state s.complete = true
of_state _ = false

abbrev no_colon : ℕ → Bool
no_colon n = not (of_class n (the k.Colon) || of_class n (the k.Scope))

colon_marked : (m : Mark) → after_check (class_number (the k.Colon)) declares of_state no_colon (s.only m) ≡ true
colon_marked k.Package = refl
colon_marked _ = refl

colon_checked : (x : Symbol) → after_check (class_number (the k.Colon)) declares of_state no_colon x ≡ true
colon_checked (s.only m) = colon_marked m
colon_checked _ = refl

-- before `.`
abbrev goes_on : Symbol → Bool
goes_on s.names = true
goes_on s.paths = true
goes_on s.dot_identifier = true
goes_on (s.only m) = mark_number m == mark_number k.Dot
goes_on _ = false

abbrev of_name : Symbol → Bool
of_name s.names = true
of_name s.name = true
of_name _ = false

abbrev is_dot : ℕ → Bool
is_dot n = of_class n (the k.Dot)

word_marked : (m : Mark) → before_check (class_number a_word) goes_on of_name is_dot (s.only m) ≡ true
word_marked k.Package = refl
word_marked _ = refl

word_checked : (x : Symbol) → before_check (class_number a_word) goes_on of_name is_dot x ≡ true
word_checked (s.only m) = word_marked m
word_checked _ = refl

-- before an annex of another language, and before `{**`
abbrev has_annex : Symbol → Bool
has_annex s.content = true
has_annex (s.only m) = mark_number m == mark_number k.AnnexOpen
has_annex _ = false

abbrev is_identifier : Symbol → Bool
is_identifier s.identifier = true
is_identifier _ = false

abbrev is_annex : ℕ → Bool
is_annex n = of_class n an_unread || of_class n (the k.AnnexOpen)

annex_marked : (m : Mark) → before_check (class_number a_word) has_annex is_identifier is_annex (s.only m) ≡ true
annex_marked k.Package = refl
annex_marked _ = refl

annex_checked : (x : Symbol) → before_check (class_number a_word) has_annex is_identifier is_annex x ≡ true
annex_checked (s.only m) = annex_marked m
annex_checked _ = refl

-- every terminal has a class
abbrev any_pair : Symbol → Symbol → Bool
any_pair x y = true

abbrev any_top : ℕ → Symbol → Bool
any_top p x = true

abbrev has_class : ℕ → ℕ → Bool
has_class p n = not (n == 105)

class_stands : (c : Class) → not (class_number c == 105) ≡ true
class_stands a_word = refl
class_stands a_whole = refl
class_stands a_real = refl
class_stands a_quoted = refl
class_stands an_unread = refl
class_stands (the k.Package) = refl
class_stands (the _) = refl

neat_any : (f : List Symbol) → pairs_hold any_pair f ≡ true
neat_any [] = refl
neat_any (x ∷ []) = refl
neat_any (x ∷ (y ∷ f)) = neat_any (y ∷ f)

on_top_any : (n : ℕ) (f : List Symbol) → on_top any_top n f ≡ true
on_top_any n [] = refl
on_top_any n (x ∷ f) = refl

seam_any : (n : ℕ) (f : List Symbol) (y : Symbol) → seam any_top any_pair n f y ≡ true
seam_any n [] y = refl
seam_any n (x ∷ f) y = refl

class_guard : Guard any_top any_pair has_class
class_guard = record {
  omits = λ p x y o h g. refl;
  wants =
      λ x r m. and_from (on_top any_top (class_number r.first) r.wanted) _ (on_top_any (class_number r.first) r.wanted)
      (neat_any r.wanted);
  seams = λ x y r m h. seam_any (class_number r.first) r.wanted y;
  takes = λ p x r m h. class_stands r.first;
}

all_beside : (p : ℕ) (ks : List PlainTerminal) → Beside (after_beside (class_number (the k.Dot)) is_word) p ks
    → Beside (after_beside (class_number (the k.Bang)) is_group) p ks
    → Beside (after_beside (class_number (the k.Colon)) no_colon) p ks
    → Beside (before_beside (class_number a_word) is_dot) p ks
    → Beside (before_beside (class_number a_word) is_annex) p ks
    → Beside has_class p ks → AreNeighbours p ks
all_beside p [] a b c d e f = tt
all_beside p (kind ∷ ks) (a, a_s) (b, b_s) (c, c_s) (d, d_s) (e, e_s) (f, f_s) = (
  and_from (has_class p (kind_number kind)) _ f
      (and_from (after_beside (class_number (the k.Dot)) is_word p (kind_number kind)) _ a
      (and_from (after_beside (class_number (the k.Bang)) is_group p (kind_number kind)) _ b
      (and_from (after_beside (class_number (the k.Colon)) no_colon p (kind_number kind)) _ c
      (and_from (before_beside (class_number a_word) is_dot p (kind_number kind)) _ d e)))),
  all_beside (kind_number kind) ks a_s b_s c_s d_s e_s f_s,
)

pub neighbours : (ks : List PlainTerminal) → Derives whole_package ks → AreNeighbours 0 ks
neighbours ks d =
    all_beside 0 ks
    (guarded _ _ _ (after_guard (class_number (the k.Dot)) names_one nothing_more is_word dot_checked) 0 whole_package
    ks refl refl d)
    (guarded _ _ _ (after_guard (class_number (the k.Bang)) tests nothing_more is_group bang_checked) 0 whole_package ks
    refl refl d)
    (guarded _ _ _ (after_guard (class_number (the k.Colon)) declares of_state no_colon colon_checked) 0 whole_package
    ks refl refl d)
    (guarded _ _ _ (before_guard (class_number a_word) goes_on of_name is_dot word_checked) 0 whole_package ks
    refl refl d)
    (guarded _ _ _ (before_guard (class_number a_word) has_annex is_identifier is_annex annex_checked) 0 whole_package
    ks refl refl d)
    (guarded _ _ _ class_guard 0 whole_package ks refl refl d)
