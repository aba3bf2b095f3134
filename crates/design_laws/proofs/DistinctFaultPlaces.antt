-- Lists of faults with at most one at each position, where each position is a place of the text's parts.
use Rattle.std.proofs.Common.{◌≡◌, ◌⊎◌, inl, inr, ◌∙◌, ℕ, Bool, true, false, cond, List, [], ◌∷◌, ◌++◌, Contains, refl}
use Rattle.std.proofs.Common.{sym, subst, append_assoc, arith}
use Rattle.std.specs.Prelude.{flat_map}
use Rattle.std.proofs.lemmas.List.Elements.{Contains-append_left, Contains-append_right, Contains-append_cases}
use Rattle.list_lemmas.proofs.Elements.{Contains-nil}
use Rattle.aadl_tree.specs.SpellingParts.{SpellingPart, Section, section_mark, empty_section, plain, may}
use Rattle.aadl_tree.specs.Declarations.{section_parts}
use Rattle.aadl_names.specs.declared.fault.PackageFault.{PackageFault}
use Rattle.aadl_names.specs.FirstFaults.{place_of}
use Rattle.aadl_names.proofs.ListMembers.{only_here}
use Rattle.aadl_names.specs.proof.PlaceOrder.{places_of}
use Rattle.design_laws.proofs.PlacedNames.{Rise, rise_front, rise_back, in_front, in_back}

-- each finding is at a place that the parts keep; if places increase along the parts, two findings at one place are
-- equal
pub record OnePerPlace (parts : List (SpellingPart ℕ)) (found : List PackageFault) : Type 0 where
  pub inside : (f : PackageFault) → Contains found f → Contains (places_of parts) (place_of f)
  pub single : Rise parts → (f g : PackageFault) → Contains found f → Contains found g → place_of f ≡ place_of g → f ≡ g

pub clear_none : (parts : List (SpellingPart ℕ)) → OnePerPlace parts []
clear_none parts =
    record { inside = λ f h. absurd (Contains-nil f h); single = λ r f g h k e. absurd (Contains-nil f h) }

pub clear_one : (parts : List (SpellingPart ℕ)) (f : PackageFault) → Contains (places_of parts) (place_of f)
    → OnePerPlace parts (f ∷ [])
clear_one parts f there = record {
  inside = λ g h. subst (λ x. Contains (places_of parts) (place_of x)) (only_here f g h) there;
  single = λ r g h a b e. sym (only_here f g a) ∙ only_here f h b;
}

pub clear_front : {a : List (SpellingPart ℕ)} (b : List (SpellingPart ℕ)) {fs : List PackageFault} → OnePerPlace a fs
    → OnePerPlace (a ++ b) fs
clear_front {a} b {fs} c = record {
  inside = λ f h. in_front a b (place_of f) (c.inside f h);
  single = λ r f g h k e. c.single (rise_front a b r) f g h k e;
}

pub clear_back : (a : List (SpellingPart ℕ)) {b : List (SpellingPart ℕ)} {fs : List PackageFault} → OnePerPlace b fs
    → OnePerPlace (a ++ b) fs
clear_back a {b} {fs} c = record {
  inside = λ f h. in_back a b (place_of f) (c.inside f h);
  single = λ r f g h k e. c.single (rise_back a b r) f g h k e;
}

pub clear_tail : {p : SpellingPart ℕ} {b : List (SpellingPart ℕ)} {fs : List PackageFault} → OnePerPlace b fs
    → OnePerPlace (p ∷ b) fs
clear_tail {p} {b} {fs} c = clear_back (p ∷ []) c

pub clear_section : (s : Section) (ps : List (SpellingPart ℕ)) {fs : List PackageFault} → OnePerPlace ps fs
    → OnePerPlace (section_parts s ps) fs
clear_section s [] c = clear_tail {p = may (empty_section s)} c
clear_section s (p ∷ ps) c = clear_tail {p = plain (section_mark s)} c

-- ---- findings of consecutive parts
module _ (a b : List (SpellingPart ℕ)) (fs gs : List PackageFault) (c : OnePerPlace a fs) (d : OnePerPlace b gs) where
  inside_by : (f : PackageFault) → Contains fs f ⊎ Contains gs f → Contains (places_of (a ++ b)) (place_of f)
  inside_by f (inl h) = in_front a b (place_of f) (c.inside f h)
  inside_by f (inr h) = in_back a b (place_of f) (d.inside f h)

  apart : Rise (a ++ b) → (f g : PackageFault) → Contains fs f → Contains gs g → place_of f ≡ place_of g → ⊥
  apart r f g h k e =
      let less = r.each (place_of f) (place_of g)
      (record { front = a; back = b; split = refl; first = c.inside f h; second = d.inside g k }) in
      omega (arith, less, e)

  single_by : Rise (a ++ b) → (f g : PackageFault) → Contains fs f ⊎ Contains gs f → Contains fs g ⊎ Contains gs g
      → place_of f ≡ place_of g → f ≡ g
  single_by r f g (inl h) (inl k) e = c.single (rise_front a b r) f g h k e
  single_by r f g (inl h) (inr k) e = absurd (apart r f g h k e)
  single_by r f g (inr h) (inl k) e = absurd (apart r g f k h (sym e))
  single_by r f g (inr h) (inr k) e = d.single (rise_back a b r) f g h k e

  both_clear : OnePerPlace (a ++ b) (fs ++ gs)
  both_clear = record {
    inside = λ f h. inside_by f (Contains-append_cases fs gs f h);
    single = λ r f g h k e. single_by r f g (Contains-append_cases fs gs f h) (Contains-append_cases fs gs g k) e;
  }

pub clear_append : {a b : List (SpellingPart ℕ)} {fs gs : List PackageFault} → OnePerPlace a fs → OnePerPlace b gs
    → OnePerPlace (a ++ b) (fs ++ gs)
clear_append {a} {b} {fs} {gs} c d = both_clear a b fs gs c d

pub clear_flat : {V : Type 0} (f : V → List (SpellingPart ℕ)) (g : V → List PackageFault)
    → ((v : V) → OnePerPlace (f v) (g v))
    → (vs : List V)
    → OnePerPlace (flat_map f vs) (flat_map g vs)
clear_flat f g each [] = clear_none []
clear_flat f g each (v ∷ vs) = clear_append (each v) (clear_flat f g each vs)

-- ---- a part of the findings, or the same in another order
pub clear_fewer : {parts : List (SpellingPart ℕ)} {fs gs : List PackageFault}
    → ((f : PackageFault) → Contains gs f → Contains fs f) → OnePerPlace parts fs
    → OnePerPlace parts gs
clear_fewer fewer c = record {
  inside = λ f h. c.inside f (fewer f h);
  single = λ r f g h k e. c.single r f g (fewer f h) (fewer g k) e;
}

pub clear_unless : (b : Bool) {parts : List (SpellingPart ℕ)} {fs : List PackageFault} → OnePerPlace parts fs
    → OnePerPlace parts (cond b [] fs)
clear_unless true {parts} {fs} c = clear_none parts
clear_unless false {parts} {fs} c = c

module _ {parts : List (SpellingPart ℕ)} where
  pub clear_three : (a b c : List PackageFault) → OnePerPlace parts (a ++ (b ++ c)) → OnePerPlace parts (a ++ b ++ c)
  clear_three a b c h = subst (OnePerPlace parts) (sym (append_assoc a b c)) h

  pub clear_four : (a b c d : List PackageFault) → OnePerPlace parts (a ++ (b ++ (c ++ d)))
      → OnePerPlace parts (a ++ b ++ c ++ d)
  clear_four a b c d h = clear_three (a ++ b) c d (clear_three a b (c ++ d) h)

module _ (a b c d : List PackageFault) (f : PackageFault) where
  last_by : Contains c f ⊎ Contains d f → Contains (a ++ (c ++ (b ++ d))) f
  last_by (inl h) = Contains-append_right a (c ++ (b ++ d)) f (Contains-append_left c (b ++ d) f h)
  last_by (inr h) =
      Contains-append_right a (c ++ (b ++ d)) f (Contains-append_right c (b ++ d) f (Contains-append_right b d f h))

  middle_by : Contains b f ⊎ Contains (c ++ d) f → Contains (a ++ (c ++ (b ++ d))) f
  middle_by (inl h) =
      Contains-append_right a (c ++ (b ++ d)) f (Contains-append_right c (b ++ d) f (Contains-append_left b d f h))
  middle_by (inr h) = last_by (Contains-append_cases c d f h)

  turned_by : Contains a f ⊎ Contains (b ++ (c ++ d)) f → Contains (a ++ (c ++ (b ++ d))) f
  turned_by (inl h) = Contains-append_left a (c ++ (b ++ d)) f h
  turned_by (inr h) = middle_by (Contains-append_cases b (c ++ d) f h)

-- the second and the third of four lists exchanged
pub clear_turned : {parts : List (SpellingPart ℕ)} (a b c d : List PackageFault)
    → OnePerPlace parts (a ++ (c ++ (b ++ d)))
    → OnePerPlace parts (a ++ (b ++ (c ++ d)))
clear_turned a b c d h =
    clear_fewer (λ f there. turned_by a b c d f (Contains-append_cases a (b ++ (c ++ d)) f there)) h
