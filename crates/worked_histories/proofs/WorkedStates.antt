-- Each worked state keeps the rules, and each transition applies to the state before.
use Rattle.std.proofs.Common.{◌≡◌, ℕ, [], inl, inr, refl, arith, ap}
use Rattle.store_core.specs.declared.part_keys.PartKey.{PartKey}
use Rattle.state_core.specs.States.{IsState}
use Rattle.state_core.specs.Steps.{Applies}
use Rattle.worked_histories.specs.Worked.{key, state0, state1, state2, state3, state4, state5, state6, state7, state8, step1, step2}
use Rattle.worked_histories.specs.Worked.{step3, step4, step5, step6, step7, step8}

rules1 : IsState state1
rules1 = record {
  few = omega arith;
  rising = tt;
  known = (omega arith, tt);
  joined = omega arith;
  holds = (omega arith, tt);
  kinds = ((refl, refl, refl, refl), tt);
  since = tt;
  spine = tt;
  upper_is = refl;
  sinces = tt;
  rows = omega arith;
  light = omega arith;
  parts = tt;
  keys = tt;
  distinct = tt;
}

rules2 : IsState state2
rules2 = record {
  few = omega arith;
  rising = (omega arith, tt);
  known = (omega arith, (omega arith, tt));
  joined = omega arith;
  holds = (omega arith, (omega arith, tt));
  kinds = ((refl, refl, refl, refl), (refl, tt));
  since = tt;
  spine = tt;
  upper_is = refl;
  sinces = tt;
  rows = omega arith;
  light = omega arith;
  parts = tt;
  keys = tt;
  distinct = tt;
}

rules3 : IsState state3
rules3 = record {
  few = omega arith;
  rising = (omega arith, (omega arith, tt));
  known = (omega arith, (omega arith, (omega arith, tt)));
  joined = omega arith;
  holds = (omega arith, (omega arith, (omega arith, tt)));
  kinds = ((refl, refl, refl, refl), (refl, (refl, tt)));
  since = refl;
  spine = tt;
  upper_is = refl;
  sinces = tt;
  rows = omega arith;
  light = omega arith;
  parts = tt;
  keys = tt;
  distinct = tt;
}

rules4 : IsState state4
rules4 = record {
  few = omega arith;
  rising = (omega arith, (omega arith, tt));
  known = (omega arith, (omega arith, (omega arith, tt)));
  joined = omega arith;
  holds = (omega arith, (omega arith, (omega arith, tt)));
  kinds = ((refl, refl, refl, refl), (refl, (refl, tt)));
  since = refl;
  spine = (refl, refl, tt);
  upper_is = refl;
  sinces = (omega arith, tt);
  rows = omega arith;
  light = omega arith;
  parts = ((omega arith, omega arith), tt);
  keys = (
    record {
      of_shard = refl;
      below = omega arith;
      spent = (
        (λ e. omega arith),
        (
          (λ e. omega arith),
          (
            (λ e. omega arith),
            tt,
          ),
        ),
      );
    },
    tt,
  );
  distinct = ((λ h. h), tt);
}

pub two_keys : key 0 1 ≡ key 0 2 → ⊥
two_keys e = let t : ◌≡◌ {A = ℕ} 1 2 = ap (λ (k : PartKey). k.token) e in omega arith

rules5 : IsState state5
rules5 = record {
  few = omega arith;
  rising = (omega arith, (omega arith, tt));
  known = (omega arith, (omega arith, (omega arith, tt)));
  joined = omega arith;
  holds = (omega arith, (omega arith, (omega arith, tt)));
  kinds = ((refl, refl, refl, refl), (refl, (refl, tt)));
  since = refl;
  spine = (refl, refl, (refl, refl, tt));
  upper_is = refl;
  sinces = (omega arith, (omega arith, tt));
  rows = omega arith;
  light = omega arith;
  parts = ((omega arith, omega arith), ((omega arith, omega arith), tt));
  keys = (
    record { of_shard = refl; below = omega arith; spent = ((λ e. omega arith), ((λ e. omega arith), ((λ e. omega arith), tt))) },
    (
      record {
        of_shard = refl;
        below = omega arith;
        spent = (
          (λ e. omega arith),
          (
            (λ e. omega arith),
            (
              (λ e. omega arith),
              tt,
            ),
          ),
        );
      },
      tt,
    ),
  );
  distinct = ((λ h. elim h [ inl e ↦ two_keys e | inr f ↦ f ]), ((λ h. h), tt));
}

rules6 : IsState state6
rules6 = record {
  few = omega arith;
  rising = (omega arith, (omega arith, tt));
  known = (omega arith, (omega arith, (omega arith, tt)));
  joined = omega arith;
  holds = (omega arith, (omega arith, (omega arith, tt)));
  kinds = ((refl, refl, refl, refl), (refl, (refl, tt)));
  since = refl;
  spine = (refl, refl, tt);
  upper_is = refl;
  sinces = (omega arith, tt);
  rows = omega arith;
  light = omega arith;
  parts = ((omega arith, omega arith), tt);
  keys = (
    record {
      of_shard = refl;
      below = omega arith;
      spent = (
        (λ e. omega arith),
        (
          (λ e. omega arith),
          (
            (λ e. omega arith),
            tt,
          ),
        ),
      );
    },
    tt,
  );
  distinct = ((λ h. h), tt);
}

rules7 : IsState state7
rules7 = record {
  few = omega arith;
  rising = (omega arith, tt);
  known = (omega arith, (omega arith, tt));
  joined = omega arith;
  holds = (omega arith, (omega arith, tt));
  kinds = ((refl, refl, refl, refl), (refl, tt));
  since = tt;
  spine = (refl, refl, tt);
  upper_is = refl;
  sinces = (omega arith, tt);
  rows = omega arith;
  light = omega arith;
  parts = ((omega arith, omega arith), tt);
  keys = (record { of_shard = refl; below = omega arith; spent = ((λ e. omega arith), ((λ e. omega arith), tt)) }, tt);
  distinct = ((λ h. h), tt);
}

rules8 : IsState state8
rules8 = record {
  few = omega arith;
  rising = (omega arith, tt);
  known = (omega arith, (omega arith, tt));
  joined = omega arith;
  holds = (omega arith, (omega arith, tt));
  kinds = ((refl, refl, refl, refl), (refl, tt));
  since = tt;
  spine = (refl, refl, tt);
  upper_is = refl;
  sinces = (omega arith, tt);
  rows = omega arith;
  light = omega arith;
  parts = ((omega arith, omega arith), tt);
  keys = (record { of_shard = refl; below = omega arith; spent = ((λ e. omega arith), ((λ e. omega arith), tt)) }, tt);
  distinct = ((λ h. h), tt);
}

pub applies1 : Applies state0 step1 state1
applies1 = record { room = omega arith; makes = record { shape = (refl, refl); room = omega arith; effect = refl }; rules = rules1 }

pub applies2 : Applies state1 step2 state2
applies2 = record { room = omega arith; makes = record { shape = tt; room = omega arith; effect = refl }; rules = rules2 }

pub applies3 : Applies state2 step3 state3
applies3 = record { room = omega arith; makes = record { shape = tt; room = omega arith; effect = refl }; rules = rules3 }

pub applies4 : Applies state3 step4 state4
applies4 = record {
  room = omega arith;
  makes = record {
    shape = record {
      forward = refl;
      few = omega arith;
      dense = omega arith;
      light = omega arith;
      keys = (refl, tt);
      count =
          (omega arith, omega arith);
    };
    stands = inl (refl, (refl, omega arith));
    fits = refl;
    light = omega arith;
    effect = refl;
  };
  rules = rules4;
}

pub applies5 : Applies state4 step5 state5
applies5 = record {
  room = omega arith;
  makes = record {
    shape = record {
      forward = refl;
      few = omega arith;
      dense = omega arith;
      light = omega arith;
      keys = (refl, tt);
      count =
          (omega arith, omega arith);
    };
    stands = inl (refl, (refl, omega arith));
    fits = refl;
    light = omega arith;
    effect = refl;
  };
  rules = rules5;
}

pub applies6 : Applies state5 step6 state6
applies6 = record {
  room = omega arith;
  makes = record {
    shape = record {
      joins = refl;
      lower = refl;
      upper = refl;
      from_left = omega arith;
      from_right = omega arith;
      since =
          omega arith;
      rows = omega arith;
      keys = (refl, tt);
      count = (omega arith, omega arith);
    };
    stands = inr (inl (refl, (refl, omega arith)));
    before = [];
    behind = [];
    present = refl;
    effect = refl;
  };
  rules = rules6;
}

pub applies7 : Applies state6 step7 state7
applies7 = record { room = omega arith; makes = record { stands = inr (inr (inl (refl, tt))); effect = refl }; rules = rules7 }

pub applies8 : Applies state7 step8 state8
applies8 = record { room = omega arith; makes = record { stands = inr (inl (refl, refl)); effect = refl }; rules = rules8 }
