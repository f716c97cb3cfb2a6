use Rattle.std.proofs.Common.{rules}
use Rattle.json.proofs.Printed.Decimals.{IsNumber-decimal}
use Rattle.store_report.proofs.json_text.put_number.Goals as goal

pub token-requires : goal.token-requires
token-requires c = search (rules, IsNumber-decimal)
