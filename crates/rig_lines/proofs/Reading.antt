-- The digits of a number, read from the first to the last.
use Rattle.std.proofs.Common.{◌≡◌, ℕ, ◌+◌, ◌-◌, ◌*◌, ◌^◌, ◌<◌, ◌≤◌, Bool, true, false, cond, List, length, get_or, drop, Some, None, Option, sym, ap, ◌∙◌, pow-suc, add-one, arith}
use native.Mathlib.Nat.{pow-le-pow_right}
use Rattle.std.specs.Char.{is_ascii_digit}
use Rattle.std.proofs.lemmas.List.{at_drop_more, at_drop_all}
use Rattle.rig_lines.specs.Numbers.{number_from}

-- six digits leave room for a seventh
pub short : (v i n : ℕ) → v < 10 ^ i → i < n → n ≤ 7 → v < 1000000
short v i n h l s =
    let k : i ≤ 6 = omega arith in
    let p : 10 ^ i ≤ 10 ^ 6 = pow-le-pow_right (omega arith) k in
    omega (arith, p)

pub longer : (v i d : ℕ) → v < 10 ^ i → d < 10 → v * 10 + d < 10 ^ (i + 1)
longer v i d h s =
    let p : 10 ^ (i + 1) ≡ 10 ^ i * 10 = ap (λ k. 10 ^ k) (add-one i) ∙ pow-suc 10 i in
    omega (arith, p)

module _ (v i : ℕ) (bs : List ℕ) where
  -- what the byte at i makes of the number so far
  abbrev read : Bool → Option ℕ
  read b = cond b (number_from (v * 10 + (get_or bs i 0 - 48)) (drop (i + 1) bs)) None

  reads : (b : Bool) → i < length bs → is_ascii_digit (get_or bs i 0) ≡ b → read b ≡ number_from v (drop i bs)
  reads b h d =
      let e : number_from v (drop i bs) ≡ read (is_ascii_digit (get_or bs i 0)) = at_drop_more (number_from v) bs i 0 h in
      sym (e ∙ ap read d)

  pub more : i < length bs → is_ascii_digit (get_or bs i 0) ≡ true → number_from (v * 10 + (get_or bs i 0 - 48)) (drop (i + 1) bs) ≡ number_from v (drop i bs)
  more h d = reads true h d

  pub stops : i < length bs → is_ascii_digit (get_or bs i 0) ≡ false → None ≡ number_from v (drop i bs)
  stops h d = reads false h d

  pub ends : length bs ≤ i → Some v ≡ number_from v (drop i bs)
  ends h = sym (at_drop_all (number_from v) bs i h)
