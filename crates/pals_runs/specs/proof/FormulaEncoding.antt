-- How the logic stores formulas: each as numbers and pairs from which it is read back, so that two formulas stored
-- alike are equal.
use Rattle.std.specs.Prelude.{◌≡◌, ℕ, zero, suc, List, [], ◌∷◌, slice_index_or, refl}
use Rattle.std.proofs.Common.{sym, ap, ◌∙◌}
use Rattle.std.specs.Coded.{Coded}
use base.Stored.{Gv, gnum, gcons}
use Rattle.pals_base.specs.proof.TreeEncoding.{int_to, int_back, int_there}
use Rattle.pals_runs.specs.declared.forms.Compare.{Compare}
use Rattle.pals_runs.specs.declared.forms.Compare.TheVariants.{Eq, Ne, Lt, Le, Gt, Ge}
use Rattle.pals_runs.specs.Formula.{Formula, Var, Halted, Not, And, Or, Previous, Once, Historically, Since}

abbrev pub comparisons : List Compare
comparisons = Eq ∷ Ne ∷ Lt ∷ Le ∷ Gt ∷ Ge ∷ []

abbrev pub compare_code : Compare → ℕ
compare_code Eq = 0
compare_code Ne = 1
compare_code Lt = 2
compare_code Le = 3
compare_code Gt = 4
compare_code Ge = 5

abbrev pub compare_back : ℕ → Compare
compare_back n = slice_index_or comparisons n Eq

pub compare_there : (op : Compare) → compare_back (compare_code op) ≡ op
compare_there Eq = refl
compare_there Ne = refl
compare_there Lt = refl
compare_there Le = refl
compare_there Gt = refl
compare_there Ge = refl

abbrev pub encode_formula : Formula → Gv
encode_formula (Var node variable op number) =
    gcons (gnum 0) (gcons (gcons (gnum node) (gnum variable)) (gcons (gnum (compare_code op)) (int_to number)))
encode_formula (Halted node) = gcons (gnum 1) (gnum node)
encode_formula (Not f) = gcons (gnum 2) (encode_formula f)
encode_formula (Previous f) = gcons (gnum 3) (encode_formula f)
encode_formula (Once f) = gcons (gnum 4) (encode_formula f)
encode_formula (Historically f) = gcons (gnum 5) (encode_formula f)
encode_formula (And f g) = gcons (gnum 6) (gcons (encode_formula f) (encode_formula g))
encode_formula (Or f g) = gcons (gnum 7) (gcons (encode_formula f) (encode_formula g))
encode_formula (Since f g) = gcons (gnum 8) (gcons (encode_formula f) (encode_formula g))

abbrev pub decode_formula : Gv → Formula
decode_formula (gcons (gnum zero) (gcons (gcons (gnum node) (gnum variable)) (gcons (gnum op) number))) =
    Var node variable (compare_back op) (int_back number)
decode_formula (gcons (gnum (suc zero)) (gnum node)) = Halted node
decode_formula (gcons (gnum (suc (suc zero))) v) = Not (decode_formula v)
decode_formula (gcons (gnum (suc (suc (suc zero)))) v) = Previous (decode_formula v)
decode_formula (gcons (gnum (suc (suc (suc (suc zero))))) v) = Once (decode_formula v)
decode_formula (gcons (gnum (suc (suc (suc (suc (suc zero)))))) v) = Historically (decode_formula v)
decode_formula (gcons (gnum (suc (suc (suc (suc (suc (suc zero))))))) (gcons a b)) =
    And (decode_formula a) (decode_formula b)
decode_formula (gcons (gnum (suc (suc (suc (suc (suc (suc (suc zero)))))))) (gcons a b)) =
    Or (decode_formula a) (decode_formula b)
decode_formula (gcons (gnum (suc (suc (suc (suc (suc (suc (suc (suc n))))))))) (gcons a b)) =
    Since (decode_formula a) (decode_formula b)
decode_formula v = Halted 0

pub decode_encode : (f : Formula) → decode_formula (encode_formula f) ≡ f
decode_encode (Var node variable op number) =
    ap (λ o. Var node variable o (int_back (int_to number))) (compare_there op)
    ∙ ap (Var node variable op) (int_there number)
decode_encode (Halted node) = refl
decode_encode (Not f) = ap Not (decode_encode f)
decode_encode (Previous f) = ap Previous (decode_encode f)
decode_encode (Once f) = ap Once (decode_encode f)
decode_encode (Historically f) = ap Historically (decode_encode f)
decode_encode (And f g) = ap (λ h. And h (decode_formula (encode_formula g))) (decode_encode f)
    ∙ ap (And f) (decode_encode g)
decode_encode (Or f g) = ap (λ h. Or h (decode_formula (encode_formula g))) (decode_encode f)
    ∙ ap (Or f) (decode_encode g)
decode_encode (Since f g) =
    ap (λ h. Since h (decode_formula (encode_formula g))) (decode_encode f) ∙ ap (Since f) (decode_encode g)

abbrev pub coded_formula : Coded Formula
coded_formula =
    record { code = encode_formula; inj = λ f g same. sym (decode_encode f) ∙ ap decode_formula same ∙ decode_encode g }
