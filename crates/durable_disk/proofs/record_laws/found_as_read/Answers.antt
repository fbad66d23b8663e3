use Rattle.std.proofs.Common.{◌*◌, take, drop}
use Rattle.durable_disk.proofs.Slots.{reads_found, found_record, found_end, whole_is, reads_closed}
use Rattle.durable_disk.proofs.record_laws.found_as_read.Goals as goal

pub returns-clause-found : goal.returns-clause-found
returns-clause-found c file bodies = (
  λ r. record { each = found_record file bodies r; end = found_end file bodies r },
  λ found. reads_found file bodies found.each found.end,
)

pub returns-clause-wide : goal.returns-clause-wide
returns-clause-wide c file k body found = (whole_is (take 256 (drop (256 * k) file)) body found).wide

pub returns-clause-closed : goal.returns-clause-closed
returns-clause-closed c file new bodies found written = reads_closed file new bodies found written
