-- What is found after it was put.
use Rattle.std.proofs.Common.{◌≡◌, ℕ, List, Some, nat_eq, bytes_eq}
use Rattle.std.proofs.lemmas.Cmp.{nat_eq_equiv, nat_list_eq_equiv}
use Rattle.std.specs.Map.{lookup}
use Rattle.lru.proofs.CallerLemmas.{lookup-put_entries}
use Rattle.lru.specs.LruCache.{LruCache, put_entries}
use Rattle.admission.specs.declared.wrong_tokens.TokenCount.{TokenCount}

-- a number that was put is found with its count
pub put_number : (cache : LruCache ℕ TokenCount) (k : ℕ) (v : TokenCount) → lookup (nat_eq k) (put_entries nat_eq cache k v) ≡ Some v
put_number cache k v = lookup-put_entries nat_eq cache k v nat_eq_equiv

-- a name that was put is found with its count
pub put_name : (cache : LruCache (List ℕ) TokenCount) (k : List ℕ) (v : TokenCount) →
    lookup (bytes_eq k) (put_entries bytes_eq cache k v) ≡ Some v
put_name cache k v = lookup-put_entries bytes_eq cache k v nat_list_eq_equiv
