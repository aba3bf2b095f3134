-- The computed weights, capped at u64's maximum, are the weights of the definition.
use Rattle.std.proofs.Common.{◌≡◌, ◌∙◌, inl, inr, ℕ, zero, suc, ◌+◌, ◌-◌, ◌*◌, ◌^◌, ◌<◌, ◌≤◌, min, max, List, [], ◌∷◌}
use Rattle.std.proofs.Common.{◌++◌, length, map, Option, Some, None, refl, sym, ap, subst, ⊎_elim, arith}
use Rattle.std.proofs.Common.{slice_index_or, slice_set, lit<, take}
use Rattle.std.specs.Prelude.{slice_get, nat_lt}
use Rattle.std.proofs.Math.Nat.{mul-le-mul_left, mul_comm}
use Rattle.std.proofs.lemmas.Bool.{cases_lt}
use Rattle.std.proofs.lemmas.List.{length-set, take_more}
use Rattle.std.proofs.lemmas.Option.{slice_get-get_or, get_or_from_slice_get}
use Rattle.list_lemmas.proofs.ListOperations.{map-map}
use Rattle.step_code.specs.declared.instr.Instr.{Instr}
use Rattle.step_code.specs.declared.instr.CodeParts.{CodeParts}
use Rattle.step_code.specs.declared.loops.LoopSpan.{LoopSpan}
use Rattle.step_code.specs.Loops.{turns_of, around}
use Rattle.step_code.specs.proof.InnermostLoops.{first, innermost}
use Rattle.step_code.specs.SuccessorsAndWeights.{forward_successors, forward_successors_at, product, greatest}
use Rattle.step_code.specs.SuccessorsAndWeights.{weight_at, heaviest, entry_weight, weight}
use Rattle.step_code.specs.proof.StackHeights.{Member}
use Rattle.step_code.specs.proof.VerifierRules.{IsVerified}
use Rattle.step_code.specs.CappedWeights.{capped, AreBest}
use Rattle.step_code.proofs.LoopCrossings.{around_outer}
use Rattle.step_code.proofs.CheckedPlaces.{known_there, known_later}
use Rattle.step_code.proofs.ListMembers.{get_set_other, get_set_same}
use Rattle.step_code.proofs.InnermostLoops.{is_found}
use Rattle.step_code.proofs.VerifiedInstructionsAndEntries.{verified_closed, verified_known, verified_entry}

-- ---- fuel
map_same : (f g : ℕ → ℕ) (ts : List ℕ) → ((t : ℕ) → Member ts t → f t ≡ g t) → map f ts ≡ map g ts
map_same f g [] same = refl
map_same f g (t ∷ ts) same =
    ap (λ x. x ∷ map f ts) (same t (inl refl)) ∙ ap (λ xs. g t ∷ xs) (map_same f g ts (λ u among. same u (inr among)))

-- each instruction leads to later places
pub record LeadsForward (code : List Instr) : Type 0 where
  pub there : (p : ℕ) (t : ℕ) → Member (forward_successors_at code p) t → t < length code
  pub later : (p : ℕ) (t : ℕ) → Member (forward_successors_at code p) t → p < t

lead_by : (c : CodeParts) (p t : ℕ) (o : Option Instr) → IsVerified c → slice_get c.instrs p ≡ o
    → Member (forward_successors p o) t
    → (t < length c.instrs) × (p < t)
lead_by c p t None v is among = absurd among
lead_by c p t (Some i) v is among = let known = verified_known c p i v is in
    ((known_there c p i known).each t among, (known_later c p i known).each t among)

pub leads_forward : (c : CodeParts) → IsVerified c → LeadsForward c.instrs
leads_forward c v = record {
  there = λ p t among. (lead_by c p t (slice_get c.instrs p) v refl among).0;
  later = λ p t among. (lead_by c p t (slice_get c.instrs p) v refl among).1;
}

-- more instructions than there are places change nothing
pub same_fuel : (code : List Instr) (m n p : ℕ) → LeadsForward code → p < length code → length code - p ≤ m
    → length code - p ≤ n → heaviest code m p ≡ heaviest code n p
same_fuel code zero n p on within le le' = absurd (omega arith)
same_fuel code (suc m) zero p on within le le' = absurd (omega arith)
same_fuel code (suc m) (suc n) p on within le le' =
    ap (λ ts. weight_at code p + greatest ts)
    (map_same (heaviest code m) (heaviest code n) (forward_successors_at code p) (λ t among.
    let there = on.there p t among in
    let later = on.later p t among in
    same_fuel code m n t on there (omega arith) (omega arith)))

-- ---- caps
pub capped_sum : (a b : ℕ) → capped (capped a + capped b) ≡ capped (a + b)
capped_sum a b = omega arith

pub capped_greatest : (ns : List ℕ) → capped (greatest ns) ≡ greatest (map capped ns)
capped_greatest [] = omega arith
capped_greatest (n ∷ ns) = let rest = capped_greatest ns in omega arith

least_factor : (a b : ℕ) → 0 < b → a ≤ a * b
least_factor a b some = let k = mul-le-mul_left a some in omega arith

product_beyond : (m a b : ℕ) → m ≤ a → 0 < b → 0 < m → min (min a m * min b m) m ≡ min (a * b) m
product_beyond m a b beyond some positive =
    let one = least_factor a b some in
    let two = least_factor m (min b m) (omega arith) in
    let cut : min a m ≡ m = omega arith in
    let e = ap (λ x. x * min b m) cut in
    omega arith

product_below : (m a b : ℕ) → a < m → b < m → min (min a m * min b m) m ≡ min (a * b) m
product_below m a b below below' =
    let e : min a m ≡ a = omega arith in
    let f : min b m ≡ b = omega arith in
    ap (λ x. min (x * min b m) m) e ∙ ap (λ x. min (a * x) m) f

product_swapped : (m a b : ℕ) → min (min b m * min a m) m ≡ min (b * a) m → min (min a m * min b m) m ≡ min (a * b) m
product_swapped m a b is = ap (λ x. min x m) (mul_comm (min a m) (min b m)) ∙ is ∙ ap (λ x. min x m) (mul_comm b a)

capped_by : (m a b : ℕ) → 0 < m → min (min a m * min b m) m ≡ min (a * b) m
capped_by m a zero positive = ap (λ x. min (min a m * x) m) (let e : min 0 m ≡ 0 = omega arith in e) ∙ omega arith
capped_by m zero b positive = ap (λ x. min (x * min b m) m) (let e : min 0 m ≡ 0 = omega arith in e) ∙ omega arith
capped_by m (suc a) (suc b) positive =
    ⊎_elim
    (λ (la : suc a < m). ⊎_elim (λ (lb : suc b < m). product_below m (suc a) (suc b) la lb)
    (λ (gb : m ≤ suc b). product_swapped m (suc a) (suc b)
    (product_beyond m (suc b) (suc a) gb (omega arith) positive)) (cases_lt (suc b) m))
    (λ (ga : m ≤ suc a). product_beyond m (suc a) (suc b) ga (omega arith) positive)
    (cases_lt (suc a) m)

pub capped_product : (a b : ℕ) → capped (capped a * capped b) ≡ capped (a * b)
capped_product a b = capped_by (2 ^ 64 - 1) a b (lit< tt)

-- ---- what one instruction weighs
none_round : (ls : List LoopSpan) → first ls ≡ None → ls ≡ []
none_round [] is = refl
none_round (l ∷ ls) is = cc

pub weight_outside : (code : List Instr) (p : ℕ) → innermost code p ≡ None → weight_at code p ≡ 1
weight_outside code p is = ap (λ ls. product (map turns_of ls)) (none_round (around code p) is)

pub weight_inside : (c : CodeParts) (p : ℕ) (l : LoopSpan) → IsVerified c → p ≤ length c.instrs
    → innermost c.instrs p ≡ Some l → weight_at c.instrs p ≡ turns_of l * weight_at c.instrs l.start
weight_inside c p l v small is =
    ap (λ ls. product (map turns_of ls)) (around_outer c.instrs p l small (verified_closed c p v) is)

pub starts_before : (code : List Instr) (p : ℕ) (l : LoopSpan) → innermost code p ≡ Some l → l.start < p
starts_before code p l is = (is_found code p (λ m. nat_lt p m.exit) l is).below

-- ---- the heaviest path from a place
greatest-append : (xs ys : List ℕ) → greatest (xs ++ ys) ≡ max (greatest xs) (greatest ys)
greatest-append [] ys = omega arith
greatest-append (x ∷ xs) ys = let rest = greatest-append xs ys in omega arith

map-append : (f : ℕ → ℕ) (xs ys : List ℕ) → map f (xs ++ ys) ≡ map f xs ++ map f ys
map-append f [] ys = refl
map-append f (x ∷ xs) ys = ap (λ l. f x ∷ l) (map-append f xs ys)

pub greatest_both : (f : ℕ → ℕ) (xs ys : List ℕ)
    → greatest (map f (xs ++ ys)) ≡ max (greatest (map f xs)) (greatest (map f ys))
greatest_both f xs ys = ap greatest (map-append f xs ys) ∙ greatest-append (map f xs) (map f ys)

pub best_here : (c : CodeParts) (p : ℕ) (i : Instr) (best : List ℕ) (d : ℕ) → IsVerified c
    → slice_get c.instrs p ≡ Some i → p < length c.instrs → AreBest c.instrs (p + 1) best
    → capped (capped (weight_at c.instrs p) + greatest
    (map (λ to. slice_index_or best to d) (forward_successors p (Some i))))
    ≡ capped (heaviest c.instrs (length c.instrs - p) p)
best_here c p i best d v here within are =
    let on = leads_forward c v in
    let code = c.instrs in
    let m = length code - p - 1 in
    let fuel : length code - p ≡ suc m = omega arith in
    let ways : forward_successors_at code p ≡ forward_successors p (Some i) = ap (forward_successors p) here in
    let each : map (λ to. slice_index_or best to d) (forward_successors p (Some i))
    ≡ map (λ to. capped (heaviest code m to)) (forward_successors p (Some i)) =
    map_same (λ to. slice_index_or best to d) (λ to. capped (heaviest code m to)) (forward_successors p (Some i))
    (λ t among.
    let among' = subst (λ ts. Member ts t) (sym ways) among in
    let there = on.there p t among' in
    let later = on.later p t among' in
    get_or_from_slice_get best t (capped (heaviest code (length code - t) t)) d (are.each t (omega arith) there)
    ∙ ap capped (same_fuel code (length code - t) m t on there (omega arith) (omega arith))) in
    let all : greatest (map (λ to. slice_index_or best to d) (forward_successors p (Some i)))
    ≡ capped (greatest (map (heaviest code m) (forward_successors_at code p))) =
    ap greatest each ∙ ap greatest (sym (map-map capped (heaviest code m) (forward_successors p (Some i))))
    ∙ sym (capped_greatest (map (heaviest code m) (forward_successors p (Some i))))
    ∙ ap (λ ts. capped (greatest (map (heaviest code m) ts))) (sym ways) in
    ap (λ x. capped (capped (weight_at code p) + x)) all
    ∙ capped_sum (weight_at code p) (greatest (map (heaviest code m) (forward_successors_at code p)))
    ∙ ap (λ n. capped (heaviest code n p)) (sym fuel)

pub set_best : (c : CodeParts) (p : ℕ) (best : List ℕ) (b : ℕ) → AreBest c.instrs (p + 1) best → p < length c.instrs
    → b ≡ capped (heaviest c.instrs (length c.instrs - p) p) → AreBest c.instrs p (slice_set best p b)
set_best c p best b are within is = record {
  count = length-set best p b ∙ are.count;
  each = λ q le small.
      ⊎_elim
      (λ (less : p < q). get_set_other best p q b (λ e. omega arith) ∙ are.each q (omega arith) small)
      (λ (ge : q ≤ p).
      let same : p ≡ q = omega arith in
      let n = are.count in
      subst (λ k. slice_get (slice_set best p b) k ≡ Some (capped (heaviest c.instrs (length c.instrs - k) k))) same
      (get_set_same best p b _ (slice_get-get_or best p 0 (omega arith)) ∙ ap Some is))
      (cases_lt p q);
}

-- ---- entries
pub entry_best : (c : CodeParts) (best : List ℕ) (e d : ℕ) → IsVerified c → AreBest c.instrs 0 best
    → Member c.entries (Some e)
    → (e < length best) × (slice_index_or best e d ≡ capped (heaviest c.instrs (length c.instrs) e))
entry_best c best e d v are among =
    let well = verified_entry c e v among in
    let there = well.there in
    let n = are.count in (
      omega arith,
      get_or_from_slice_get best e (capped (heaviest c.instrs (length c.instrs - e) e)) d
          (are.each e (omega arith) there)
          ∙ ap capped (same_fuel c.instrs (length c.instrs - e) (length c.instrs) e (leads_forward c v) there
          (omega arith)
          (omega arith)),
    )

map-entries : (code : List Instr) (es : List (Option ℕ)) (x : Option ℕ)
    → map (entry_weight code) (es ++ x ∷ []) ≡ map (entry_weight code) es ++ entry_weight code x ∷ []
map-entries code [] x = refl
map-entries code (e ∷ es) x = ap (λ l. entry_weight code e ∷ l) (map-entries code es x)

pub weight_more : (code : List Instr) (es all : List (Option ℕ)) (i most w : ℕ) (x : Option ℕ) → all ≡ es
    → i < length all → slice_index_or all i None ≡ x
    → most ≡ capped (weight code (take i es)) → w ≡ capped (entry_weight code x)
    → max most w ≡ capped (weight code (take (i + 1) es))
weight_more code es all i most w x same within is before now =
    let size = ap length same in
    let more : take (i + 1) es ≡ take i es ++ x ∷ [] = take_more es i None (omega arith)
    ∙ ap (λ y. take i es ++ y ∷ []) (ap (λ l. slice_index_or l i None) (sym same) ∙ is) in
    let all' : weight code (take (i + 1) es) ≡ max (weight code (take i es)) (max (entry_weight code x) 0) =
    ap (weight code) more ∙ ap greatest (map-entries code (take i es) x)
    ∙ greatest-append (map (entry_weight code) (take i es)) (entry_weight code x ∷ []) in
    omega arith

member_by : (es : List (Option ℕ)) (i : ℕ) (x : Option ℕ) → i < length es → slice_index_or es i None ≡ x → Member es x
member_by [] i x within is = absurd (omega arith)
member_by (e ∷ es) zero x within is = inl is
member_by (e ∷ es) (suc i) x within is = inr (member_by es i x (omega arith) is)

pub member_at : (es all : List (Option ℕ)) (i : ℕ) (x : Option ℕ) → all ≡ es → i < length all
    → slice_index_or all i None ≡ x → Member es x
member_at es all i x same within is = subst (λ l. Member l x) same (member_by all i x within is)
