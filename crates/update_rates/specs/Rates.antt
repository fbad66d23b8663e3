-- Priorities, deadlines and periods of updaters from the validities of what they write, under the constraint that period
-- and deadline together are within the validity (the More-Less approach of Xiong and Ramamritham). An updater goes by its
-- place in the list.
use Rattle.std.specs.Prelude.{ℕ, zero, suc, ◌+◌, ◌-◌, ◌*◌, ◌/◌, ◌^◌, ◌==◌, min, nat_lt, nat_le, Bool, ◌&&◌, ◌||◌, List, length, Option, None}
use Rattle.std.specs.List.{filter, range_with_len, sum_by}
use Rattle.std.specs.Option.{unwrap_or}
use Rattle.std.specs.Int.{div_ceil}
use Rattle.response_test.specs.Response.{least_from}
use Rattle.update_rates.specs.declared.updaters.Updater.{Updater}
use Rattle.update_rates.specs.declared.rates.Rate.{Rate}
use Rattle.update_rates.specs.Updaters.{updater_at}

-- whether an updater comes before another: by rising validity, then by list order
abbrev pub is_earlier : List Updater → ℕ → ℕ → Bool
is_earlier us h tx =
    nat_lt (updater_at us h).validity (updater_at us tx).validity
    || ((updater_at us h).validity == (updater_at us tx).validity && nat_lt h tx)

-- the updaters that come before one
abbrev pub earlier_than : List Updater → ℕ → List ℕ
earlier_than us tx = filter (λ h. is_earlier us h tx) (range_with_len 0 (length us))

-- its place in this order, counted from 0
unfoldable pub place_of : List Updater → ℕ → ℕ
place_of us tx = length (earlier_than us tx)

-- what a job of an updater and the jobs of the earlier ones may take of w ticks, with these periods
unfoldable pub load : List Updater → (ℕ → ℕ) → ℕ → ℕ → ℕ
load us periods tx w =
    (updater_at us tx).steps + sum_by (λ h. div_ceil w (periods h) * (updater_at us h).steps) (earlier_than us tx)

-- period and deadline are at most this
abbrev pub longest : ℕ
longest = 2 ^ 30

-- a deadline is at most half the validity
abbrev pub cap : List Updater → ℕ → ℕ
cap us tx = min ((updater_at us tx).validity / 2) longest

-- the least w from 1 to the cap that holds its load
unfoldable pub least_window : List Updater → (ℕ → ℕ) → ℕ → Option ℕ
least_window us periods tx = least_from (λ w. nat_le (load us periods tx w) w) 1 (cap us tx)

-- the period that a deadline leaves
abbrev pub period_after : List Updater → ℕ → Option ℕ → ℕ
period_after us tx deadline = min ((updater_at us tx).validity - unwrap_or deadline 0) longest

-- the deadlines, found by levels: the first updater depends on no other, and there are no more levels than updaters
abbrev pub deadline_by : List Updater → ℕ → ℕ → Option ℕ
deadline_by us zero tx = None
deadline_by us (suc n) tx = least_window us (λ h. period_after us h (deadline_by us n h)) tx

-- the deadline of an updater is its least window, with the periods of the earlier ones; none where it has none
unfoldable pub deadline : List Updater → ℕ → Option ℕ
deadline us tx = deadline_by us (length us) tx

abbrev pub period : List Updater → ℕ → ℕ
period us tx = period_after us tx (deadline us tx)

-- what an updater is given
abbrev pub rate_of : List Updater → ℕ → Rate
rate_of us tx =
    record {
      prio = length us - place_of us tx;
      period = period us tx;
      deadline = unwrap_or (deadline us tx) 0;
    }
