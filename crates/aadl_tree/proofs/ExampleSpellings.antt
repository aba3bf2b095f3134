-- The terminals that spell an example transition, and its canonical text: the law `counting_is_spelled`.
use Rattle.std.proofs.Common.{◌≡◌, [], ◌∷◌, refl, inl, inr}
use Rattle.std.specs.Fmt.{digits}
use Rattle.aadl_tree.specs.declared.mark.Mark.TheVariants as k
use Rattle.aadl_tree.specs.Terminals.{mark}
use Rattle.aadl_tree.specs.SpellingParts.{Spells, kept}
use Rattle.aadl_tree.specs.Annexes.{transition_parts}
use Rattle.aadl_tree.specs.CanonicalText.{canonical}
use Rattle.aadl_tree.specs.proof.ExampleSpellings.{counting, counting_kinds, counting_text}

pub counting_plain : Spells (transition_parts counting) (counting_kinds []) []
counting_plain = (
  _,
  refl,
  (
    _,
    refl,
    (
      _,
      refl,
      (
        _,
        refl,
        (
          _,
          refl,
          (
            _,
            refl,
            (
              _,
              refl,
              (
                _,
                refl,
                (
                  _,
                  refl,
                  (
                    _,
                    refl,
                    (
                      _,
                      refl,
                      (
                        _,
                        refl,
                        (
                          _,
                          refl,
                          (
                            _,
                            refl,
                            (
                              _,
                              refl,
                              (
                                _,
                                refl,
                                (
                                  _,
                                  refl,
                                  (
                                    _,
                                    refl,
                                    (_, refl, (_, refl, inl (_, refl, (_, refl, refl)))),
                                  ),
                                ),
                              ),
                            ),
                          ),
                        ),
                      ),
                    ),
                  ),
                ),
              ),
            ),
          ),
        ),
      ),
    ),
  ),
)

pub counting_ended : Spells (transition_parts counting) (counting_kinds (mark k.Semicolon ∷ [])) []
counting_ended = (
  _,
  refl,
  (
    _,
    refl,
    (
      _,
      refl,
      (
        _,
        refl,
        (
          _,
          refl,
          (
            _,
            refl,
            (
              _,
              refl,
              (
                _,
                refl,
                (
                  _,
                  refl,
                  (
                    _,
                    refl,
                    (
                      _,
                      refl,
                      (
                        _,
                        refl,
                        (
                          _,
                          refl,
                          (
                            _,
                            refl,
                            (
                              _,
                              refl,
                              (
                                _,
                                refl,
                                (
                                  _,
                                  refl,
                                  (
                                    _,
                                    refl,
                                    (_, refl, (_, refl, inr (_, refl, (_, refl, (_, refl, refl))))),
                                  ),
                                ),
                              ),
                            ),
                          ),
                        ),
                      ),
                    ),
                  ),
                ),
              ),
            ),
          ),
        ),
      ),
    ),
  ),
)

pub counting_canonical : canonical (kept (transition_parts counting)) ≡ counting_text
unfolding digits
counting_canonical = refl
