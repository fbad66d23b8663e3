-- What keys tell of ticks.
use Rattle.std.proofs.Common.{◌+◌, ◌*◌, get_or, ◌≡◌, ℕ, ◌%◌, ◌^◌, ◌<◌, ◌≤◌, List, map, length, set, replicate, sym, ap, ◌∙◌, inl, inr, arith}
use Rattle.std.proofs.lemmas.Bool.{cases_eq, cases_lt}
use Rattle.std.proofs.Math.ListN.{get_or-map}
use Rattle.std.proofs.lemmas.List.{get_or-set_same, get_or-set_other, get_or_default, length-set, length-map, map-set}
use Rattle.release_calendar.specs.Heads.{no_tick, tick_at, key_of, tick_of, no_key, key_at, AreKeys, IsLeastOf, AreLeasts, IsLeast, IsFirstLeast}
use Rattle.release_calendar.proofs.Leasts.{all_none, among_all, below_all}

-- ---- one key

pub tick_back : (tx tick : ℕ) → tx < 2 ^ 22 → tick_of (key_of tx tick) ≡ tick
tick_back tx tick lt = omega (arith, lt)

pub key_low : (tx tick : ℕ) → tx < 2 ^ 22 → tick ≤ no_tick → key_of tx tick ≤ no_key
key_low tx tick lt le = omega (arith, lt, le)

-- ---- all keys

pub tick_is : (keys : List ℕ) (tx : ℕ) → tick_at (map tick_of keys) tx ≡ tick_of (key_at keys tx)
tick_is keys tx = get_or-map tick_of keys tx no_key

pub known : (keys : List ℕ) (tx : ℕ) → tx < length (map tick_of keys) → tx < length keys
known keys tx lt = omega (arith, lt, length-map keys tick_of)

pub set_ticks : (keys : List ℕ) (tx tick : ℕ) → AreKeys keys → tx < length keys → map tick_of (set keys tx (key_of tx tick)) ≡ set (map tick_of keys) tx tick
set_ticks keys tx tick are lt =
    map-set tick_of keys tx (key_of tx tick) ∙ ap (set (map tick_of keys) tx) (tick_back tx tick (omega (arith, lt, are.few)))

pub set_own : (keys : List ℕ) (tx tick : ℕ) → AreKeys keys → tx < length keys → tick ≤ no_tick → AreKeys (set keys tx (key_of tx tick))
set_own keys tx tick are lt le =
    let few : tx < 2 ^ 22 = omega (arith, lt, are.few) in
    let here : key_at (set keys tx (key_of tx tick)) tx ≡ key_of tx tick = get_or-set_same keys tx (key_of tx tick) no_key lt in
    record {
      few = omega (arith, are.few, length-set keys tx (key_of tx tick));
      own = λ k low.
          elim (cases_eq k tx) [
            | inl e ↦ (
                let at : key_at (set keys tx (key_of tx tick)) k ≡ key_of tx tick = ap (key_at (set keys tx (key_of tx tick))) e ∙ here in
                omega (arith, at, few, e))
            | inr ne ↦ (
                let at : key_at (set keys tx (key_of tx tick)) k ≡ key_at keys k = get_or-set_other keys tx k (key_of tx tick) no_key ne in
                ap (λ (n : ℕ). n % 2 ^ 22) at ∙ are.own k (omega (arith, at, low)))
          ];
      low = λ k.
          elim (cases_eq k tx) [
            | inl e ↦ (
                let at : key_at (set keys tx (key_of tx tick)) k ≡ key_of tx tick = ap (key_at (set keys tx (key_of tx tick))) e ∙ here in
                omega (arith, at, key_low tx tick few le))
            | inr ne ↦ omega (arith, get_or-set_other keys tx k (key_of tx tick) no_key ne, are.low k)
          ];
    }

pub none_own : (n : ℕ) (keys : List ℕ) → keys ≡ replicate n no_key → length keys ≤ 2 ^ 22 → AreKeys keys
none_own n keys e few =
    let each : (k : ℕ) → key_at keys k ≡ no_key = λ k. ap (λ (xs : List ℕ). key_at xs k) e ∙ all_none n k in
    record {
      few = few;
      own = λ k low. absurd (omega (arith, each k, low));
      low = λ k. omega (arith, each k);
    }

pub none_at : (n : ℕ) (keys : List ℕ) (tx : ℕ) → keys ≡ replicate n no_key → tick_at (map tick_of keys) tx ≡ no_tick
none_at n keys tx e =
    let is : key_at keys tx ≡ no_key = ap (λ (xs : List ℕ). key_at xs tx) e ∙ all_none n tx in
    omega (arith, tick_is keys tx, is)

-- where there is no tick, each key of the transaction is lower
pub falls : (keys : List ℕ) (tx tick : ℕ) → AreKeys keys → tx < length keys → tick_at (map tick_of keys) tx ≡ no_tick → tick < no_tick → key_of tx tick ≤ key_at keys tx
falls keys tx tick are lt none le =
    let is : tick_of (key_at keys tx) ≡ no_tick = sym (tick_is keys tx) ∙ none in
    omega (arith, is, le, are.few, lt)

-- ---- the least

pub least_low : (keys leasts : List ℕ) (least : ℕ) → AreKeys keys → AreLeasts keys leasts least → least ≤ no_key
least_low keys leasts least own are =
    let a = among_all keys leasts least are in
    omega (arith, a.1, own.low a.0)

pub is_least : (keys leasts : List ℕ) (least : ℕ) → AreKeys keys → AreLeasts keys leasts least → IsLeast (map tick_of keys) (tick_of least)
is_least keys leasts least own are =
    let a = among_all keys leasts least are in
    record {
      below = λ tx. (let low : least ≤ key_at keys tx = below_all keys leasts least are (least_low keys leasts least own are) tx in omega (arith, low, tick_is keys tx));
      among = (a.0, tick_is keys a.0 ∙ ap tick_of a.1);
    }

pub is_first : (keys leasts : List ℕ) (least tick : ℕ) → AreKeys keys → AreLeasts keys leasts least → tick_of least ≡ tick → tick < no_tick
    → IsFirstLeast (map tick_of keys) (least % 2 ^ 22) × (tick_at (map tick_of keys) (least % 2 ^ 22) ≡ tick) × (tick < no_tick)
is_first keys leasts least tick own are e lt =
    let a = among_all keys leasts least are in
    let there : key_at keys a.0 ≡ least = a.1 in
    let place : least % 2 ^ 22 ≡ a.0 = sym (ap (λ (n : ℕ). n % 2 ^ 22) there) ∙ own.own a.0 (omega (arith, there, e, lt)) in
    let at : tick_at (map tick_of keys) (least % 2 ^ 22) ≡ tick = ap (tick_at (map tick_of keys)) place ∙ (tick_is keys a.0 ∙ (ap tick_of there ∙ e)) in
    let low : (tx : ℕ) → least ≤ key_at keys tx = below_all keys leasts least are (least_low keys leasts least own are) in (
      record {
        below = λ tx. omega (arith, at, e, low tx, tick_is keys tx);
        first = λ tx before.
            elim (cases_lt tick (tick_at (map tick_of keys) tx)) [
              | inl later ↦ omega (arith, at, later)
              | inr same ↦ (
                  let is : tick_of (key_at keys tx) ≡ tick = omega (arith, same, tick_is keys tx, low tx, e) in
                  let own : key_at keys tx % 2 ^ 22 ≡ tx = own.own tx (omega (arith, is, lt)) in
                  absurd (omega (arith, own, is, e, low tx, before)))
            ];
      },
      at,
      lt,
    )

-- ---- keys are low

pub leasts_low : (keys leasts : List ℕ) (least : ℕ) → AreKeys keys → AreLeasts keys leasts least → (k d : ℕ) → k < length leasts → get_or leasts k d ≤ no_key
leasts_low keys leasts least own are k d lt =
    let same : get_or leasts k d ≡ key_at leasts k = get_or_default leasts k d no_key lt in
    let row = (are.rows k lt).among in
    omega (arith, same, row.2, own.low (8 * k + row.0))

-- where one of them changes
pub set_low : (leasts : List ℕ) (row low : ℕ) → ((k d : ℕ) → k < length leasts → get_or leasts k d ≤ no_key) → low ≤ no_key → (k d : ℕ) → k < length (set leasts row low) → get_or (set leasts row low) k d ≤ no_key
set_low leasts row low all le k d lt =
    let within : k < length leasts = omega (arith, lt, length-set leasts row low) in
    elim (cases_eq k row) [
      | inl e ↦ (
          let at : get_or (set leasts row low) k d ≡ low = ap (λ (n : ℕ). get_or (set leasts row low) n d) e ∙ get_or-set_same leasts row low d (omega (arith, within, e)) in
          omega (arith, at, le))
      | inr ne ↦ omega (arith, get_or-set_other leasts row k low d ne, all k d within)
    ]

pub row_low : (keys : List ℕ) (from count least : ℕ) → AreKeys keys → IsLeastOf keys from count least → least ≤ no_key
row_low keys from count least own is = (let a = is.among in omega (arith, a.2, own.low (from + a.0)))
