-- The response that is found by trying each window is the response, and there is one response at most.
use Rattle.std.proofs.Common.{◌≡◌, ℕ, ◌≤◌, Option, None, Some, refl, ap, arith}
use Rattle.std.specs.Option.{unwrap_or}
use Rattle.txn_set.specs.Set.{Set, txn_of}
use Rattle.law_times.specs.Response.{IsResponse, response}
use Rattle.law_times.proofs.Demand.{response_found, response_none}
use Rattle.set_admission.specs.Bounds.{response_of}

is-found : (set : Set) (tx r : ℕ) → IsResponse set tx r → (o : Option ℕ) → response set tx ≡ o → o ≡ Some r
is-found set tx r is None e = absurd (response_none set tx e r is.holds)
is-found set tx r is (Some w) e =
    let found = response_found set tx w e in
    let a : w ≤ r = found.least r is.holds in
    let b : r ≤ w = is.least w found.holds in
    let same : w ≡ r = omega arith in
    ap Some same

pub found : (set : Set) (tx r : ℕ) → IsResponse set tx r → response set tx ≡ Some r
found set tx r is = is-found set tx r is (response set tx) refl

pub response_of-some : (set : Set) (tx r : ℕ) → response set tx ≡ Some r → response_of set tx ≡ r
response_of-some set tx r e = ap (λ (o : Option ℕ). unwrap_or o 0) e

pub response_of-is : (set : Set) (tx r : ℕ) → response set tx ≡ Some r → IsResponse set tx (response_of set tx)
response_of-is set tx r e = rw (response_of-some set tx r e) (response_found set tx r e)

of-le : (set : Set) (tx : ℕ) (o : Option ℕ) → response set tx ≡ o → unwrap_or o 0 ≤ (txn_of set tx).deadline
of-le set tx None e = omega arith
of-le set tx (Some w) e = (response_found set tx w e).holds.in_deadline

pub response_of-le : (set : Set) (tx : ℕ) → response_of set tx ≤ (txn_of set tx).deadline
response_of-le set tx = of-le set tx (response set tx) refl
