-- A fault in a line of the rules is the first one if the earlier lines have no findings.
use Rattle.std.proofs.Common.{◌≡◌, ◌⊎◌, inl, inr, ℕ, zero, suc, ◌+◌, ◌-◌, ◌<◌, ◌≤◌, false, List, [], ◌∷◌, get_or}
use Rattle.std.proofs.Common.{Contains, Some, None, Result, Ok, Err, MatchResult, refl, sym, ap, subst, ◌∙◌, arith}
use Rattle.std.proofs.lemmas.Bool.{cases_order}
use Rattle.std.proofs.lemmas.Option.{same_Some, none-some}
use Rattle.list_lemmas.proofs.Elements.{Contains-nil}
use Rattle.aadl_tree.specs.Declarations.{PackageTree}
use Rattle.aadl_names.specs.declared.fault.PackageFault.{PackageFault}
use Rattle.aadl_names.specs.declared.fault.PackageFault.TheVariants.{NoRoot, TooMany}
use Rattle.aadl_names.specs.FirstFaults.{precedes, IsFirst, IsFirstByLine}
use Rattle.aadl_names.specs.NameResolution.{root_number}
use Rattle.aadl_names.specs.PackageNameFaults.{package_faults}
use Rattle.aadl_uses.specs.Recursion.{IsRecursive}
use Rattle.aadl_chains.specs.ChainFaults.{IsEndFault}
use Rattle.aadl_instance.specs.declared.limits.Limit.{Limit}
use Rattle.aadl_instance.specs.declared.limits.Limit.TheVariants.{Components, Links, Ports, Variables, States, Path}
use Rattle.aadl_instance.specs.proof.Limits.{name_of, line_of, IsExceeded}
use Rattle.aadl_instance.specs.Faults.{IsOver, FoundIn, Found, IsFault, IsSilentTo}

-- limits have the lines from 5 on
pub limit_lines : (limit : Limit) → 5 ≤ line_of limit
limit_lines Components = omega arith
limit_lines Links = omega arith
limit_lines Ports = omega arith
limit_lines Variables = omega arith
limit_lines States = omega arith
limit_lines Path = omega arith

-- each limit has its own line
limit_of : ℕ → Limit
limit_of zero = Components
limit_of (suc zero) = Links
limit_of (suc (suc zero)) = Ports
limit_of (suc (suc (suc zero))) = Variables
limit_of (suc (suc (suc (suc zero)))) = States
limit_of (suc (suc (suc (suc (suc n))))) = Path

of_line : (limit : Limit) → limit_of (line_of limit - 5) ≡ limit
unfolding limit_of
of_line Components = refl
of_line Links = refl
of_line Ports = refl
of_line Variables = refl
of_line States = refl
of_line Path = refl

same_limit : (a b : Limit) → line_of a ≡ line_of b → a ≡ b
same_limit a b e = sym (of_line a) ∙ (ap (λ n. limit_of (n - 5)) e ∙ of_line b)

-- a first fault of the same findings
first_by : (P Q : PackageFault → Type 0) (fault : PackageFault) → ((f : PackageFault) → P f → Q f)
    → ((f : PackageFault) → Q f → P f) → IsFirst P fault → IsFirst Q fault
first_by P Q fault to from x = record { found = to fault x.found; first = λ other q. x.first other (from other q) }

module _ (tree : PackageTree ℕ) (root : ℕ) where
  -- an exceeded limit, at its line and with its name
  abbrev Passed : ℕ → List ℕ → Type 0
  Passed line what = (limit : Limit) × (line ≡ line_of limit) × (what ≡ name_of limit) × IsExceeded tree root limit

  passed_of : (line : ℕ) (what : List ℕ) → IsOver tree root line what → Passed line what
  passed_of line what (inl h) = (Components, h.0, h.1, h.2)
  passed_of line what (inr (inl h)) = (Links, h.0, h.1, h.2)
  passed_of line what (inr (inr (inl h))) = (Ports, h.0, h.1, h.2)
  passed_of line what (inr (inr (inr (inl h)))) = (Variables, h.0, h.1, h.2)
  passed_of line what (inr (inr (inr (inr (inl h))))) = (States, h.0, h.1, h.2)
  passed_of line what (inr (inr (inr (inr (inr h))))) = (Path, h.0, h.1, h.2)

  over_of : (limit : Limit) (what : List ℕ) → what ≡ name_of limit → IsExceeded tree root limit
      → IsOver tree root (line_of limit) what
  over_of Components what e h = inl (refl, e, h)
  over_of Links what e h = inr (inl (refl, e, h))
  over_of Ports what e h = inr (inr (inl (refl, e, h)))
  over_of Variables what e h = inr (inr (inr (inl (refl, e, h))))
  over_of States what e h = inr (inr (inr (inr (inl (refl, e, h)))))
  over_of Path what e h = inr (inr (inr (inr (inr (refl, e, h)))))

  over_line : (line : ℕ) (fault : PackageFault)
      → ((what : List ℕ) × IsOver tree root line what × (fault ≡ TooMany what)) → 5 ≤ line
  over_line line fault h =
      let p = passed_of line h.0 h.1 in
      let least = limit_lines p.0 in
      let is = p.1 in
      omega (arith, least, is)

  pub from_two : (line : ℕ) (fault : PackageFault) → FoundIn tree root line fault → 2 ≤ line
  from_two line fault (inl h) = let is = h.0 in omega (arith, is)
  from_two line fault (inr (inl h)) = let is = h.0 in omega (arith, is)
  from_two line fault (inr (inr (inl h))) = let is = h.0 in omega (arith, is)
  from_two line fault (inr (inr (inr h))) = let least = over_line line fault h in omega arith

  in_two : (line : ℕ) (fault : PackageFault) → line ≡ 2 → FoundIn tree root line fault
      → Contains (package_faults tree root) fault
  in_two line fault e (inl h) = h.1
  in_two line fault e (inr (inl h)) = let is = h.0 in absurd (omega (arith, is))
  in_two line fault e (inr (inr (inl h))) = let is = h.0 in absurd (omega (arith, is))
  in_two line fault e (inr (inr (inr h))) = let least = over_line line fault h in absurd (omega arith)

  in_three : (line : ℕ) (fault : PackageFault) → line ≡ 3 → FoundIn tree root line fault → IsRecursive tree fault
  in_three line fault e (inl h) = let is = h.0 in absurd (omega (arith, is))
  in_three line fault e (inr (inl h)) = h.1
  in_three line fault e (inr (inr (inl h))) = let is = h.0 in absurd (omega (arith, is))
  in_three line fault e (inr (inr (inr h))) = let least = over_line line fault h in absurd (omega arith)

  in_four : (line : ℕ) (fault : PackageFault) → line ≡ 4 → FoundIn tree root line fault → IsEndFault tree root fault
  in_four line fault e (inl h) = let is = h.0 in absurd (omega (arith, is))
  in_four line fault e (inr (inl h)) = let is = h.0 in absurd (omega (arith, is))
  in_four line fault e (inr (inr (inl h))) = h.1
  in_four line fault e (inr (inr (inr h))) = let least = over_line line fault h in absurd (omega arith)

  in_limits : (line : ℕ) (fault : PackageFault) → 5 ≤ line → FoundIn tree root line fault
      → (what : List ℕ) × IsOver tree root line what × (fault ≡ TooMany what)
  in_limits line fault e (inl h) = let is = h.0 in absurd (omega (arith, is))
  in_limits line fault e (inr (inl h)) = let is = h.0 in absurd (omega (arith, is))
  in_limits line fault e (inr (inr (inl h))) = let is = h.0 in absurd (omega (arith, is))
  in_limits line fault e (inr (inr (inr h))) = h

  -- ---- one line after the other
  pub silent_two : IsSilentTo tree root 2
  silent_two line fault lt h = let least = from_two line fault h in omega arith

  one_of_two : (line end : ℕ) → line < end + 1 → (line ≡ end) ⊎ ((line < end) ⊎ (end < line))
      → (line < end) ⊎ (line ≡ end)
  one_of_two line end lt (inl e) = inr e
  one_of_two line end lt (inr (inl h)) = inl h
  one_of_two line end lt (inr (inr h)) = absurd (omega arith)

  silent_next : (end : ℕ) → IsSilentTo tree root end
      → ((line : ℕ) (fault : PackageFault) → line ≡ end → FoundIn tree root line fault → ⊥)
      → IsSilentTo tree root (end + 1)
  silent_next end before here line fault lt h = by (one_of_two line end lt (cases_order line end))
    where
      by : (line < end) ⊎ (line ≡ end) → ⊥
      by (inl less) = before line fault less h
      by (inr same) = here line fault same h

  pub silent_three : package_faults tree root ≡ [] → IsSilentTo tree root 3
  silent_three none =
      silent_next 2 silent_two
      (λ line fault e h. Contains-nil fault (subst (λ xs. Contains xs fault) none (in_two line fault e h)))

  pub silent_four : package_faults tree root ≡ [] → ((fault : PackageFault) → IsRecursive tree fault → ⊥)
      → IsSilentTo tree root 4
  silent_four none never = silent_next 3 (silent_three none) (λ line fault e h. never fault (in_three line fault e h))

  pub silent_five : package_faults tree root ≡ [] → ((fault : PackageFault) → IsRecursive tree fault → ⊥)
      → ((fault : PackageFault) → IsEndFault tree root fault → ⊥)
      → IsSilentTo tree root 5
  silent_five none never ends =
      silent_next 4 (silent_four none never) (λ line fault e h. ends fault (in_four line fault e h))

  split : (line : ℕ) → (line < 5) ⊎ (5 ≤ line)
  split line = by (cases_order line 5)
    where
      by : (line ≡ 5) ⊎ ((line < 5) ⊎ (5 < line)) → (line < 5) ⊎ (5 ≤ line)
      by (inl e) = inr (omega arith)
      by (inr (inl lt)) = inl lt
      by (inr (inr gt)) = inr (omega arith)

  -- no limit is exceeded
  pub all_silent : IsSilentTo tree root 5 → ((limit : Limit) → IsExceeded tree root limit → ⊥)
      → (line : ℕ) (fault : PackageFault) → FoundIn tree root line fault → ⊥
  all_silent before none line fault h = by (split line)
    where
      by : (line < 5) ⊎ (5 ≤ line) → ⊥
      by (inl lt) = before line fault lt h
      by (inr le) = let o = in_limits line fault le h in let p = passed_of line o.0 o.1 in none p.0 p.3

  -- ---- faults
  pub at_line : (line : ℕ) (fault : PackageFault) → IsSilentTo tree root line → IsFirst (FoundIn tree root line) fault
      → IsFirstByLine (FoundIn tree root) fault
  at_line line fault before here =
      record { line = line; here = here; none_before = λ earlier other lt h. before earlier other lt h }

  pub name_fault : (fault : PackageFault) → IsFirst (Contains (package_faults tree root)) fault
      → IsFirstByLine (FoundIn tree root) fault
  name_fault fault x = at_line 2 fault silent_two
      (first_by (Contains (package_faults tree root)) (FoundIn tree root 2) fault (λ f h. inl (refl, h))
      (λ f h. in_two 2 f refl h) x)

  pub recursion_fault : (fault : PackageFault) → package_faults tree root ≡ [] → IsFirst (IsRecursive tree) fault
      → IsFirstByLine (FoundIn tree root) fault
  recursion_fault fault none x = at_line 3 fault (silent_three none)
      (first_by (IsRecursive tree) (FoundIn tree root 3) fault (λ f h. inr (inl (refl, h)))
      (λ f h. in_three 3 f refl h) x)

  pub end_fault : (fault : PackageFault) → package_faults tree root ≡ [] → ((f : PackageFault) → IsRecursive tree f → ⊥)
      → IsFirst (IsEndFault tree root) fault
      → IsFirstByLine (FoundIn tree root) fault
  end_fault fault none never x = at_line 4 fault (silent_four none never)
      (first_by (IsEndFault tree root) (FoundIn tree root 4) fault (λ f h. inr (inr (inl (refl, h))))
      (λ f h. in_four 4 f refl h) x)

  too_many_alike : (what : List ℕ) (fault : PackageFault) → ((other : List ℕ) × (fault ≡ TooMany other))
      → precedes fault (TooMany what) ≡ false
  too_many_alike what fault h = ap (λ f. precedes f (TooMany what)) h.1

  pub limit_fault : (limit : Limit) (what : List ℕ) → IsSilentTo tree root 5 → what ≡ name_of limit
      → IsExceeded tree root limit
      → ((other : Limit) → line_of other < line_of limit → IsExceeded tree root other → ⊥)
      → IsFirstByLine (FoundIn tree root) (TooMany what)
  limit_fault limit what before is passed first = record {
    line = line_of limit;
    here = record {
      found = inr (inr (inr (what, over_of limit what is passed, refl)));
      first = λ other h. let o = in_limits (line_of limit) other (limit_lines limit) h in
          too_many_alike what other (o.0, o.2);
    };
    none_before = λ earlier other lt h. by earlier other lt h (split earlier);
  }
    where
      by : (earlier : ℕ) (other : PackageFault) → earlier < line_of limit → FoundIn tree root earlier other
          → (earlier < 5) ⊎ (5 ≤ earlier) → ⊥
      by earlier other lt h (inl less) = before earlier other less h
      by earlier other lt h (inr le) =
          let o = in_limits earlier other le h in
          let p = passed_of earlier o.0 o.1 in
          let at = p.1 in
          first p.0 (omega (arith, at, lt)) p.3

-- ---- with the root's name
module _ (tree : PackageTree ℕ) (name : List ℕ) where
  pub no_root : root_number tree name ≡ None → IsFault tree name NoRoot
  no_root none = record {
    line = 1;
    here = record { found = inl (refl, none, refl); first = λ other h. first other h };
    none_before = λ earlier other lt h. before earlier other lt h;
  }
    where
      first : (other : PackageFault) → Found tree name 1 other → precedes other NoRoot ≡ false
      first other (inl h) = ap (λ f. precedes f NoRoot) h.2
      first other (inr h) = absurd (none-some h.0 (sym none ∙ h.1))

      before : (earlier : ℕ) (other : PackageFault) → earlier < 1 → Found tree name earlier other → ⊥
      before earlier other lt (inl h) = let is = h.0 in omega (arith, is)
      before earlier other lt (inr h) = none-some h.0 (sym none ∙ h.1)

  module _ (root : ℕ) (is : root_number tree name ≡ Some root) where
    in_root : (line : ℕ) (fault : PackageFault) → Found tree name line fault → FoundIn tree root line fault
    in_root line fault (inl h) = absurd (none-some root (sym h.1 ∙ is))
    in_root line fault (inr h) = subst (λ r. FoundIn tree r line fault) (same_Some h.0 root (sym h.1 ∙ is)) h.2

    pub root_fault : (fault : PackageFault) → IsFirstByLine (FoundIn tree root) fault → IsFault tree name fault
    root_fault fault x = record {
      line = x.line;
      here =
          first_by (FoundIn tree root x.line) (Found tree name x.line) fault (λ f h. inr (root, is, h))
          (λ f h. in_root x.line f h) x.here;
      none_before = λ earlier other lt h. x.none_before earlier other lt (in_root earlier other h);
    }

    pub root_silent : ((line : ℕ) (fault : PackageFault) → FoundIn tree root line fault → ⊥)
        → (line : ℕ) (fault : PackageFault) → Found tree name line fault → ⊥
    root_silent none line fault h = none line fault (in_root line fault h)

-- ---- limits in their order
pub limit_line : (i : ℕ) (d : Limit) → i < 6
    → line_of (get_or (Components ∷ Links ∷ Ports ∷ Variables ∷ States ∷ Path ∷ []) i d) ≡ 5 + i
limit_line zero d lt = refl
limit_line (suc zero) d lt = refl
limit_line (suc (suc zero)) d lt = refl
limit_line (suc (suc (suc zero))) d lt = refl
limit_line (suc (suc (suc (suc zero)))) d lt = refl
limit_line (suc (suc (suc (suc (suc zero))))) d lt = refl
limit_line (suc (suc (suc (suc (suc (suc i)))))) d lt = absurd (omega arith)

pub last_line : (limit : Limit) → line_of limit < 11
last_line Components = omega arith
last_line Links = omega arith
last_line Ports = omega arith
last_line Variables = omega arith
last_line States = omega arith
last_line Path = omega arith

-- the limits before the next one
pub passed_next : (P : Limit → Type 0) (limit : Limit) (i : ℕ) → line_of limit ≡ 5 + i
    → ((other : Limit) → line_of other < 5 + i → P other → ⊥) → (P limit → ⊥)
    → (other : Limit) → line_of other < 5 + (i + 1) → P other → ⊥
passed_next P limit i is before here other lt p = by (cases_order (line_of other) (line_of limit))
  where
    by : (line_of other ≡ line_of limit) ⊎ ((line_of other < line_of limit) ⊎ (line_of limit < line_of other)) → ⊥
    by (inl same) = here (subst P (same_limit other limit same) p)
    by (inr (inl less)) = before other (omega arith) p
    by (inr (inr more)) = absurd (omega arith)

-- ---- results of calls
pub matched : {T E : Type 0} (P P' : T → Type 0) (Q Q' : E → Type 0) (r : Result T E) → ((x : T) → P x → P' x)
    → ((e : E) → Q e → Q' e) → MatchResult r P Q
    → MatchResult r P' Q'
matched P P' Q Q' (Ok x) f g h = f x h
matched P P' Q Q' (Err e) f g h = g e h

pub passed_earlier : (P : Limit → Type 0) (limit : Limit) (i : ℕ) → line_of limit ≡ 5 + i
    → ((other : Limit) → line_of other < 5 + i → P other → ⊥) → P limit
    → P limit × ((other : Limit) → line_of other < line_of limit → P other → ⊥)
passed_earlier P limit i is before here = (here, λ other lt p. before other (omega (arith, is, lt)) p)
