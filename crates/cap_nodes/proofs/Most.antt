-- A bound on the size of a type that no alignment stands in: each step up to one takes 16 bytes at most.
use Rattle.std.proofs.Common.{ℕ, ◌+◌, ◌-◌, ◌%◌, ◌^◌, ◌≤◌, ◌<◌, arith, subst, sym}
use Prim.Native.Nat.{max}
use native.Mathlib.Nat.{mod-lt}
use mir.Syntax.{Width, w8, w16, w32, w64, w128, Ty, Tys, Tyss, ty_int, ty_bool, ty_float, ty_ptr, ty_ref, ty_array, ty_unit, ty_struct, ty_enum, ty_param, ty_const, ty_array_p, ty_named, tnil, tcons, ttnil, ttcons}
use mir.Val.{bytes}
use prog.Memory.{align, aligns, alignss, end_of, endss, size, up}
use prog.Align.{align-bytes, align_pos, align_w, aligns-bytes, aligns_pos, aligns_w, alignss-bytes, alignss_pos, alignss_w}

bytes_most : (w : Width) → bytes w ≤ 16
bytes_most w8 = omega arith
bytes_most w16 = omega arith
bytes_most w32 = omega arith
bytes_most w64 = omega arith
bytes_most w128 = omega arith

up_most : (k e : ℕ) → 0 < k → k ≤ 16 → up k e ≤ e + 16
up_most k e some few = let m = mod-lt (k - e % k) some in omega (arith, m, few)

align_most : (τ : Ty) → align τ ≤ 16
align_most τ = subst (λ n. n ≤ 16) (sym (align-bytes τ)) (bytes_most (align_w τ))

abbrev mutual
  pub most : Ty → ℕ
  most (ty_struct ν τs) = mosts τs + 16
  most (ty_enum ν τss) = mostss τss + 17
  most (ty_int w) = size (ty_int w)
  most ty_bool = size ty_bool
  most (ty_float f) = size (ty_float f)
  most ty_ptr = size ty_ptr
  most (ty_ref κ μ τ) = size (ty_ref κ μ τ)
  most (ty_array τ n) = size (ty_array τ n)
  most ty_unit = size ty_unit
  most (ty_param ι) = size (ty_param ι)
  most (ty_const ι) = size (ty_const ι)
  most (ty_array_p υ ι) = size (ty_array_p υ ι)
  most (ty_named ν θ) = size (ty_named ν θ)

  mosts : Tys → ℕ
  mosts tnil = 0
  mosts (tcons τ τs) = most τ + 16 + mosts τs

  mostss : Tyss → ℕ
  mostss ttnil = 0
  mostss (ttcons τs τss) = mosts τs + mostss τss

struct_most : (size end most : ℕ) → size ≤ end + 16 → end ≤ 0 + most → size ≤ most + 16
struct_most size end most u e = omega (arith, u, e)

enum_most : (size end most : ℕ) → size ≤ end + 16 → end ≤ 1 + most → size ≤ most + 17
enum_most size end most u e = omega (arith, u, e)

field_most : (end at size low most rest : ℕ) → end ≤ at + size + rest → at ≤ low + 16 → size ≤ most → end ≤ low + (most + 16 + rest)
field_most end at size low most rest later u s = omega (arith, later, u, s)

variant_most : (one others most rest : ℕ) → one ≤ 1 + most → others ≤ 1 + rest → max one others ≤ 1 + (most + rest)
variant_most one others most rest m n = omega (arith, m, n)

aligns_most : (τs : Tys) → aligns τs ≤ 16
aligns_most τs = subst (λ n. n ≤ 16) (sym (aligns-bytes τs)) (bytes_most (aligns_w τs))

alignss_most : (τss : Tyss) → alignss τss ≤ 16
alignss_most τss = subst (λ n. n ≤ 16) (sym (alignss-bytes τss)) (bytes_most (alignss_w τss))

same_most : (n : ℕ) → n ≤ n
same_most n = omega arith

abbrev mutual
  size_most : (τ : Ty) → size τ ≤ most τ
  size_most (ty_struct ν τs) = struct_most (size (ty_struct ν τs)) (end_of 0 τs) (mosts τs) (up_most (aligns τs) (end_of 0 τs) (aligns_pos τs) (aligns_most τs)) (end_most 0 τs)
  size_most (ty_enum ν τss) = enum_most (size (ty_enum ν τss)) (endss τss) (mostss τss) (up_most (alignss τss) (endss τss) (alignss_pos τss) (alignss_most τss)) (ends_most τss)
  size_most (ty_int w) = same_most (size (ty_int w))
  size_most ty_bool = same_most (size ty_bool)
  size_most (ty_float f) = same_most (size (ty_float f))
  size_most ty_ptr = same_most (size ty_ptr)
  size_most (ty_ref κ μ τ) = same_most (size (ty_ref κ μ τ))
  size_most (ty_array τ n) = same_most (size (ty_array τ n))
  size_most ty_unit = same_most (size ty_unit)
  size_most (ty_param ι) = same_most (size (ty_param ι))
  size_most (ty_const ι) = same_most (size (ty_const ι))
  size_most (ty_array_p υ ι) = same_most (size (ty_array_p υ ι))
  size_most (ty_named ν θ) = same_most (size (ty_named ν θ))

  end_most : (e : ℕ) (τs : Tys) → end_of e τs ≤ e + mosts τs
  end_most e tnil = omega arith
  end_most e (tcons τ τs) =
      field_most (end_of (up (align τ) e + size τ) τs) (up (align τ) e) (size τ) e (most τ) (mosts τs) (end_most (up (align τ) e + size τ) τs) (up_most (align τ) e (align_pos τ) (align_most τ)) (size_most τ)

  ends_most : (τss : Tyss) → endss τss ≤ 1 + mostss τss
  ends_most ttnil = omega arith
  ends_most (ttcons τs τss) = variant_most (end_of 1 τs) (endss τss) (mosts τs) (mostss τss) (end_most 1 τs) (ends_most τss)

-- so a type is no larger than memory where this bound is not
pub fits_by_most : (τ : Ty) → most τ < 2 ^ 63 → size τ < 2 ^ 63
fits_by_most τ few = by (size τ) (most τ) (size_most τ) few
  where
    by : (s m : ℕ) → s ≤ m → m < 2 ^ 63 → s < 2 ^ 63
    by s m low few = omega (arith, low, few)
