-- Tags: 64-bit FNV-1a, as document 01's "Tags and handles" writes it.
use Rattle.std.specs.Prelude.{ℕ, zero, suc, ◌*◌, ◌/◌, ◌%◌, ◌^◌, List, [], ◌∷◌, ◌++◌, bit_xor}
use Rattle.fnv.specs.declared.Tag.{Tag}

-- one byte: exclusive-or it in, then multiply by the prime modulo 2^64
unfoldable pub mixed : ℕ → ℕ → ℕ
mixed h b = (bit_xor h b * 1099511628211) % 2 ^ 64

-- for each byte, in order
unfoldable pub fnv_from : ℕ → List ℕ → ℕ
fnv_from h [] = h
fnv_from h (b ∷ bs) = fnv_from (mixed h b) bs

-- FNV-1a of a list of bytes
unfoldable pub fnv1a : List ℕ → ℕ
fnv1a bs = fnv_from 14695981039346656037 bs

-- the n lowest bytes of a number, lowest first
unfoldable pub little : ℕ → ℕ → List ℕ
little zero x = []
little (suc n) x = x % 256 ∷ little n (x / 256)

-- tag: FNV-1a over the identity's 8 bytes, lowest first, then the value
unfoldable pub tag_of : ℕ → List ℕ → Tag
tag_of identity value = record { 0 = fnv1a (little 8 identity ++ value) }
