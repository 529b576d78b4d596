-- What is printed of a log with named columns (document 02, W-201; document 01, "Files, program, C host").
-- Assumes nothing.
use Rattle.std.specs.Prelude.{ℕ, List}
use Rattle.log_tables.specs.Logs.{log_table, log_answer}
use Rattle.printing.specs.Texts.{loaded_text}
use Rattle.report.specs.Report.{report_of}

-- the report of the log's table where loading takes the log, else the line of the refusal
abbrev pub log_text : List ℕ → List ℕ
log_text bytes = loaded_text (log_answer bytes) (report_of (log_table bytes))
