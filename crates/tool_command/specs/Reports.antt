-- What the commands write of a legal report.
use Rattle.std.specs.Prelude.{ℕ, List}
use Rattle.command_replies.specs.Replies.{Reply, Written}
use Rattle.run_report.specs.declared.judged.LegalReport.{LegalReport}
use Rattle.run_report.specs.Judged.{set_in, is_admitted}
use Rattle.report_export.specs.Texts.{summary_of}
use Rattle.report_export.specs.Whole.{json_of, table_of}

abbrev pub summary_in : LegalReport → List ℕ
summary_in r = summary_of r.names (set_in r.set) (is_admitted r.set) r.entries

abbrev pub json_in : LegalReport → List ℕ
json_in r = json_of r.names (set_in r.set) (is_admitted r.set) r.entries

abbrev pub table_in : LegalReport → List ℕ
table_in r = table_of r.names (set_in r.set) r.entries

abbrev pub SummaryReply : LegalReport → Reply
SummaryReply r = Written (summary_in r)

abbrev pub JsonReply : LegalReport → Reply
JsonReply r = Written (json_in r)

abbrev pub TableReply : LegalReport → Reply
TableReply r = Written (table_in r)
