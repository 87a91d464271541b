use Rattle·page.specs.Acts.{refresh}
use Rattle·session·proofs.Acting.{refused-acted}
use Rattle·session·proofs.Anew.{refresh-acted}
use Rattle·session·proofs.session.Session.refresh.Needs as need
use Rattle·session·specs.Acting.{stateOf, worldOf}

pub returns-in-Ok : need.returns-in-Ok
returns-in-Ok g c =
    refresh-acted (worldOf (g .T·Terminal .screen) (g .T·Terminal .extent) (g .T·Terminal .answered) (g .Widths·WidthTable .columns) (g .H·Highlighter .lights) (g .H·Highlighter .lightsPrompt) (g .H·Highlighter .lightsHint) (g .H·Highlighter .heeds) (g .N·Hinter .hints (c .args .hinter .now)))
    (stateOf (c .args .terminal .now) (c .args .highlighter .now) (c .args .self .now) (c .args .tables .now))
    (stateOf (c .refresh-line .last .terminal) (c .refresh-line .last .highlighter) (c .refresh-line .last .self) (c .refresh-line .last .tables))
    (c .in-Ok .ends) (c .refresh-line .result) (c .outcome-of .result) (c .outcome-of .ensures) (c .in-Ok .ensures tt) (c .refresh-line .ensures)

pub returns-in-Err : need.returns-in-Err
returns-in-Err g c =
    refused-acted (worldOf (g .T·Terminal .screen) (g .T·Terminal .extent) (g .T·Terminal .answered) (g .Widths·WidthTable .columns) (g .H·Highlighter .lights) (g .H·Highlighter .lightsPrompt) (g .H·Highlighter .lightsHint) (g .H·Highlighter .heeds) (g .N·Hinter .hints (c .args .hinter .now)))
    (stateOf (c .args .terminal .now) (c .args .highlighter .now) (c .args .self .now) (c .args .tables .now))
    refresh (c .in-Err .refusal) (c .in-Err .ensures tt .refuses)
