-- Shifts, masks and "or" on 32-bit words as arithmetic.
use Rattle.std.proofs.Common.{◌≡◌, ℕ, ◌+◌, ◌-◌, ◌*◌, ◌%◌, ◌^◌, ◌<◌, ◌≤◌, ap, ◌∙◌, mod-eq_of_lt, one-mul, pow_pos}
use lib.Bits.{bit_and, bit_or, and_mask, or_shifted}
use lib.Pow.{pow-lt}

-- `1 << k` does not wrap
pub one_shifted : (k : ℕ) → k < 32 → 1 * 2 ^ k % 2 ^ 32 ≡ 2 ^ k
one_shifted k h = ap (λ (n : ℕ). n % 2 ^ 32) (one-mul (2 ^ k)) ∙ mod-eq_of_lt (pow-lt h)

pub one_shifted_pos : (k : ℕ) → k < 32 → 1 ≤ 1 * 2 ^ k % 2 ^ 32
one_shifted_pos k h = rw (one_shifted k h) (pow_pos k)

-- `x & ((1 << k) - 1)` keeps the k lowest bits
pub lowest : (x k : ℕ) → k < 32 → bit_and x (1 * 2 ^ k % 2 ^ 32 - 1) ≡ x % 2 ^ k
lowest x k h = rw (one_shifted k h) (and_mask x k)

-- `(high << k) | rest`, where nothing wraps and the bits stay apart
pub joined : (high k rest : ℕ) → rest < 2 ^ k → high * 2 ^ k < 2 ^ 32 → bit_or (high * 2 ^ k % 2 ^ 32) rest ≡ high * 2 ^ k + rest
joined high k rest h fits = rw (mod-eq_of_lt fits) (or_shifted high k rest h)
