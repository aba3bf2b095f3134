-- For the loop of `send_messages`: the links from a node one after the other, with links of other nodes between them.
use Rattle.std.proofs.Common.{◌≡◌, ◌∙◌, ℕ, zero, suc, ◌+◌, ◌<◌, ◌≤◌, Bool, true, false, cond, List, [], ◌∷◌, length}
use Rattle.std.proofs.Common.{map, drop, refl, sym, ap, ap₂, subst, arith, length-drop}
use Rattle.std.specs.Prelude.{filter, slice_index_or}
use Rattle.std.specs.List.{enumerate_from}
use Rattle.std.proofs.lemmas.List.{get_or-drop, drop_all, drop_more, drop-drop}
use Rattle.pals_base.specs.declared.basic_types.LinkNo.{LinkNo}
use Rattle.pals_model.specs.declared.design.Link.{Link}
use Rattle.bus_machine.specs.Plans.{no_link}
use Rattle.pals_bus.specs.proof.OutOfRangeDefaults.{no_link_no}
use Rattle.pals_bus.specs.proof.RoundMessages.{is_from}
use Rattle.pals_bus.specs.proof.LinksFromNodes.{no_numbers, number_of}
use Rattle.pals_bus.proofs.LinksFromNodes.{numbers_from, numbered}

-- the first of some numbers, and those after it
pub record IsNext (node from : ℕ) (links : List Link) (number : LinkNo) (rest : List LinkNo) : Type 0 where
  pub at : ℕ
  pub is : number.0 ≡ from + at
  pub within : at < length links
  pub own : is_from node (slice_index_or links at no_link) ≡ true
  pub others : (k : ℕ) → k < at → is_from node (slice_index_or links k no_link) ≡ false
  pub rest_are : rest ≡ numbers_from node (from + at + 1) (drop (at + 1) links)

before_next : (node : ℕ) (x : Link) (xs : List Link) (at : ℕ) → is_from node x ≡ false
    → ((k : ℕ) → k < at → is_from node (slice_index_or xs k no_link) ≡ false)
    → (k : ℕ) → k < suc at → is_from node (slice_index_or (x ∷ xs) k no_link) ≡ false
before_next node x xs at other others zero lt = other
before_next node x xs at other others (suc k) lt = others k (omega (arith, lt))

next_or : (node from : ℕ) (x : Link) (xs : List Link) (number : LinkNo) (rest : List LinkNo) (b : Bool)
    → is_from node x ≡ b
    → map number_of (cond b ((from, x) ∷ filter (λ (e : ℕ × Link). is_from node e.1) (enumerate_from (from + 1) xs))
    (filter (λ (e : ℕ × Link). is_from node e.1) (enumerate_from (from + 1) xs))) ≡ number ∷ rest
    → (numbers_from node (from + 1) xs ≡ number ∷ rest → IsNext node (from + 1) xs number rest)
    → IsNext node from (x ∷ xs) number rest
next_or node from x xs number rest true own are later =
    let first : numbered from ≡ number = cc in
    let after : numbers_from node (from + 1) xs ≡ rest = cc in
    record {
      at = 0;
      is = let n : number.0 ≡ from = ap (λ (l : LinkNo). l.0) (sym first) in omega (arith, n);
      within = omega arith;
      own = own;
      others = λ k lt. absurd (omega (arith, lt));
      rest_are = sym after ∙ ap (λ n. numbers_from node n xs) (let e : from + 1 ≡ from + 0 + 1 = omega arith in e);
    }
next_or node from x xs number rest false other are later =
    let next = later are in
    record {
      at = suc next.at;
      is = let n = next.is in omega (arith, n);
      within = let lt = next.within in omega (arith, lt);
      own = next.own;
      others = λ k lt. before_next node x xs next.at other next.others k lt;
      rest_are =
          next.rest_are
          ∙ ap (λ n. numbers_from node n (drop (next.at + 1) xs))
          (let e : from + 1 + next.at + 1 ≡ from + suc next.at + 1 = omega arith in e)
          ∙ ap (λ m. numbers_from node (from + suc next.at + 1) (drop m (x ∷ xs)))
          (let e : suc (next.at + 1) ≡ suc next.at + 1 = omega arith in e);
    }

is_next : (node from : ℕ) (links : List Link) (number : LinkNo) (rest : List LinkNo)
    → numbers_from node from links ≡ number ∷ rest → IsNext node from links number rest
is_next node from [] number rest are = absurd (cc)
is_next node from (x ∷ xs) number rest are =
    next_or node from x xs number rest (is_from node x) refl are (is_next node (from + 1) xs number rest)

none_if : (b : Bool) (e : ℕ × Link) (es : List (ℕ × Link)) → map number_of (cond b (e ∷ es) es) ≡ no_numbers
    → (b ≡ false) × (map number_of es ≡ no_numbers)
none_if true e es none = absurd (cc)
none_if false e es none = (refl, none)

none_left : (node from : ℕ) (links : List Link) → numbers_from node from links ≡ no_numbers → (k : ℕ) → k < length links
    → is_from node (slice_index_or links k no_link) ≡ false
none_left node from [] none k lt = absurd (omega (arith, lt))
none_left node from (x ∷ xs) none zero lt =
    (none_if (is_from node x) (from, x)
    (filter (λ (e : ℕ × Link). is_from node e.1) (enumerate_from (from + 1) xs)) none).0
none_left node from (x ∷ xs) none (suc k) lt =
    none_left node (from + 1) xs
    (none_if (is_from node x) (from, x) (filter (λ (e : ℕ × Link). is_from node e.1) (enumerate_from (from + 1) xs))
    none).1 k (omega (arith, lt))

-- a property at a link holds at the node's next link, if links of other nodes change nothing
past : (P : ℕ → Type 0) (node : ℕ) (links : List Link)
    → ((k : ℕ) → k < length links → is_from node (slice_index_or links k no_link) ≡ false → P k → P (k + 1))
    → (from count : ℕ) → from + count ≤ length links
    → ((k : ℕ) → k < count → is_from node (slice_index_or links (from + k) no_link) ≡ false) → P from
    → P (from + count)
past P node links step from zero le others holds = subst P (let e : from ≡ from + 0 = omega arith in e) holds
past P node links step from (suc count) le others holds =
    let before = past P node links step from count (omega (arith, le)) (λ k lt. others k (omega (arith, lt))) holds in
    subst P (let e : from + count + 1 ≡ from + suc count = omega arith in e)
    (step (from + count) (omega (arith, le)) (others count (omega arith)) before)

-- the first of a node's links are done: it holds at a link after which the node's other links remain
pub record Reaches (P : ℕ → Type 0) (node first : ℕ) (links : List Link) (numbers : List LinkNo) : Type 0 where
  pub at : ℕ
  pub within : at ≤ length links
  pub left : drop first numbers ≡ numbers_from node at (drop at links)
  pub holds : P at

-- if it holds at each link of the node, in order, it holds at the end
pub reaches_all : (P : ℕ → Type 0) (node first : ℕ) (links : List Link) (numbers : List LinkNo)
    → ((k : ℕ) → k < length links → is_from node (slice_index_or links k no_link) ≡ false → P k → P (k + 1))
    → Reaches P node first links numbers → length numbers ≤ first → P (length links)
reaches_all P node first links numbers step so_far all =
    let le = so_far.within in
    let at = so_far.at in
    let count = length (drop at links) in
    let size = length-drop at links in
    let none = none_left node at (drop at links) (sym so_far.left ∙ drop_all first numbers all) in
    let end : at + count ≡ length links = omega (arith, size, le) in
    subst P end (past P node links step at count (omega (arith, end))
    (λ k lt. ap (is_from node) (sym (get_or-drop at links k no_link)) ∙ none k lt) so_far.holds)

-- the next number belongs to a link of the node, at which it holds
pub record IsAt (P : ℕ → Type 0) (node first : ℕ) (links : List Link) (numbers : List LinkNo)
    (number : LinkNo) : Type 0 where
  pub within : number.0 < length links
  pub own : is_from node (slice_index_or links number.0 no_link) ≡ true
  pub holds : P number.0
  pub left : drop (first + 1) numbers ≡ numbers_from node (number.0 + 1) (drop (number.0 + 1) links)

pub reaches_next : (P : ℕ → Type 0) (node first : ℕ) (links : List Link) (numbers : List LinkNo)
    → ((k : ℕ) → k < length links → is_from node (slice_index_or links k no_link) ≡ false → P k → P (k + 1))
    → Reaches P node first links numbers → first < length numbers
    → IsAt P node first links numbers (slice_index_or numbers first no_link_no)
reaches_next P node first links numbers step so_far lt =
    let le = so_far.within in
    let from = so_far.at in
    let number = slice_index_or numbers first no_link_no in
    let next =
    is_next node from (drop from links) number (drop (first + 1) numbers)
    (sym so_far.left ∙ drop_more numbers first no_link_no lt) in
    let size = length-drop from links in
    let short = next.within in
    let here : from + next.at ≡ number.0 = sym next.is in
    let inside : number.0 < length links = omega (arith, here, size, short, le) in
    record {
      within = inside;
      own =
          ap (λ n. is_from node (slice_index_or links n no_link)) (sym here)
          ∙ ap (is_from node) (sym (get_or-drop from links next.at no_link)) ∙ next.own;
      holds =
          subst P here (past P node links step from next.at (omega (arith, here, inside))
          (λ k small. ap (is_from node) (sym (get_or-drop from links k no_link)) ∙ next.others k small)
          so_far.holds);
      left =
          next.rest_are
          ∙ ap (numbers_from node (from + next.at + 1)) (drop-drop (next.at + 1) from links)
          ∙ ap₂ (λ n m. numbers_from node n (drop m links))
          (let e : from + next.at + 1 ≡ number.0 + 1 = omega (arith, here) in e)
          (let e : from + (next.at + 1) ≡ number.0 + 1 = omega (arith, here) in e);
    }

pub reaches_more : (P : ℕ → Type 0) (Q : ℕ → Type 0) (node first : ℕ) (links : List Link) (numbers : List LinkNo)
    (number : LinkNo) → IsAt P node first links numbers number → Q (number.0 + 1)
    → Reaches Q node (first + 1) links numbers
reaches_more P Q node first links numbers number here holds =
    record { at = number.0 + 1; within = let lt = here.within in omega (arith, lt); left = here.left; holds = holds }
