-- Properties of a result with a value.
use Rattle.std.proofs.Common.{◌≡◌, ◌∙◌, Result, Ok, Err, OnOk, IfOk}

pub OnOk-always : {T E : Type 0} (r : Result T E) (P : Type 0) → P → OnOk r P
OnOk-always (Ok x) P holds = holds
OnOk-always (Err e) P holds = tt

pub OnOk-weaker : {T E : Type 0} (r : Result T E) (P Q : Type 0) → (P → Q) → OnOk r P → OnOk r Q
OnOk-weaker (Ok x) P Q weaker holds = weaker holds
OnOk-weaker (Err e) P Q weaker holds = holds

pub IfOk-weaker : {T E : Type 0} (P Q : T → Type 0) (r : Result T E) → ((x : T) → P x → Q x) → IfOk r P → IfOk r Q
IfOk-weaker P Q (Ok x) f h = f x h
IfOk-weaker P Q (Err e) f h = tt

pub OnOk-same : {T E X : Type 0} (r : Result T E) (x y z : X) → y ≡ z → OnOk r (x ≡ y) → OnOk r (x ≡ z)
OnOk-same (Ok v) x y z same is = is ∙ same
OnOk-same (Err e) x y z same is = tt
