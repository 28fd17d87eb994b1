-- Numbers of at most eight octets.
use Rattle.std.proofs.Common.{ℕ, zero, suc, ◌+◌, ◌*◌, ◌<◌, ◌^◌, arith}

pub fits_next : (n d i : ℕ) → n < 256 ^ i → i < 8 → d < 256 → 256 * n + d < 2 ^ 64
fits_next n d zero lt few small = omega arith
fits_next n d (suc zero) lt few small = omega arith
fits_next n d (suc (suc zero)) lt few small = omega arith
fits_next n d (suc (suc (suc zero))) lt few small = omega arith
fits_next n d (suc (suc (suc (suc zero)))) lt few small = omega arith
fits_next n d (suc (suc (suc (suc (suc zero))))) lt few small = omega arith
fits_next n d (suc (suc (suc (suc (suc (suc zero)))))) lt few small = omega arith
fits_next n d (suc (suc (suc (suc (suc (suc (suc zero))))))) lt few small = omega arith
fits_next n d (suc (suc (suc (suc (suc (suc (suc (suc i)))))))) lt few small = absurd (omega arith)
