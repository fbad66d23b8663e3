-- Records, and what is found in each place.
use Rattle.std.specs.Prelude.{◌≡◌, ℕ, ◌<◌, ◌*◌, List, [], ◌∷◌, length, get_or}
use Rattle.durable_disk.specs.Images.{Written}
use Rattle.durable_disk.specs.Records.{Reads, slot_at, whole, closed}

-- each place of these records, and the closed gate behind them
pub record AreFound (file : List ℕ) (bodies : List (List ℕ)) : Type 0 where
  pub each : (k : ℕ) → k < length bodies → slot_at k file ≡ whole (get_or bodies k [])
  pub end : slot_at (length bodies) file ≡ closed

-- a file has these records exactly where they are found so
abbrev pub FoundAsRead : Type 0
FoundAsRead = (file : List ℕ) (bodies : List (List ℕ)) → (Reads file bodies → AreFound file bodies) × (AreFound file bodies → Reads file bodies)

-- a whole record has 255 bytes behind its gate
abbrev pub WholeIsWide : Type 0
WholeIsWide = (file : List ℕ) (k : ℕ) (body : List ℕ) → slot_at k file ≡ whole body → length body ≡ 255

-- where these records are found, and a closed gate is written behind them, they are the file's
abbrev pub ClosedAsRead : Type 0
ClosedAsRead =
    (file new : List ℕ) (bodies : List (List ℕ)) → ((k : ℕ) → k < length bodies → slot_at k file ≡ whole (get_or bodies k []))
    → Written (256 * length bodies) (0 ∷ []) file new → Reads new bodies
