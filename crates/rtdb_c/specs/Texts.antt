-- The words of a status and of the record of a refusal. Items and transactions are called by their numbers: item0, txn0.
use Rattle.std.specs.Prelude.{ℕ, ◌+◌, ◌==◌, ◌&&◌, nat_le, if◌then◌else◌, List, ◌++◌, length, map, take, drop, codes, decimal}
use Rattle.std.specs.List.{range_with_len}
use Rattle.rt_base.specs.declared.name.Names.{Names}
use Rattle.refusal_lines.specs.Causes.{number, compile_cause, admit_cause}
use Rattle.c_forms.specs.declared.refusals.RefusalForm.{RefusalForm}
use Rattle.c_forms.specs.Refusals.{rule_of, admission_of}

abbrev pub item_name : ℕ → List ℕ
item_name i = codes "item" ++ decimal i

abbrev pub txn_name : ℕ → List ℕ
txn_name i = codes "txn" ++ decimal i

-- so many items and transactions, each called by its number
abbrev pub numbered : ℕ → Names
numbered n = record { items = map item_name (range_with_len 0 n); txns = map txn_name (range_with_len 0 n) }

-- enough of them for each number of a record
abbrev pub names_for : RefusalForm → Names
names_for form = numbered (form.a + form.b + form.c + 1)

-- a row or a number of the tables that is bad
abbrev pub table_text : RefusalForm → List ℕ
table_text form =
    if form.rule == 1 then codes "BadKind" ++ number form.a
    else (if form.rule == 2 then codes "BadNumber" ++ number form.a
    else (if form.rule == 3 then codes "BadTransaction" ++ number form.a
    else (if form.rule == 4 then codes "BadTogetherRow" ++ number form.a else codes "BadTable")))

-- a rule of compiling that is broken, as refusal_lines says it
abbrev pub rule_text : RefusalForm → List ℕ
rule_text form = if nat_le 10 form.rule && nat_le form.rule 18 then compile_cause (names_for form) (rule_of form) else codes "NotCompiled"

-- the rule of admission, as refusal_lines says it
abbrev pub admission_text : RefusalForm → List ℕ
admission_text form = if nat_le 20 form.rule && nat_le form.rule 22 then admit_cause (names_for form) (admission_of form) else codes "NotAdmitted"

-- a status of a log or of a seat that needs no record
abbrev pub later_word : ℕ → List ℕ
later_word status =
    if status == 20 then codes "Stopped"
    else (if status == 21 then codes "Unanswered"
    else (if status == 22 then codes "UnknownEntry"
    else (if status == 25 then codes "Full"
    else (if status == 26 then codes "Busy"
    else (if status == 27 then codes "WrongSeat" else codes "Unknown" ++ number status)))))

-- a status that needs no record
abbrev pub status_word : ℕ → List ℕ
status_word status =
    if status == 0 then codes "Ok"
    else (if status == 1 then codes "Closed"
    else (if status == 2 then codes "Open"
    else (if status == 3 then codes "NoOperation"
    else (if status == 4 then codes "NoTransaction"
    else (if status == 5 then codes "NoItem"
    else (if status == 6 then codes "Nothing"
    else (if status == 7 then codes "RoomTooLarge"
    else (if status == 11 then codes "OutOfMemory" else later_word status))))))))

abbrev pub text_of : ℕ → RefusalForm → List ℕ
text_of status form =
    if status == 8 then table_text form
    else (if status == 9 then rule_text form
    else (if status == 10 then admission_text form
    else (if status == 23 then codes "BadText" ++ number form.a
    else (if status == 24 then codes "BadRecord" ++ number form.a else status_word status))))

-- a text over the front of some bytes, as much of it as there are
abbrev pub laid : List ℕ → List ℕ → List ℕ
laid text bytes = take (length bytes) (text ++ drop (length text) bytes)
