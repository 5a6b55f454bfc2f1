use mathlib.Core.Path.{sym, ◌∙◌}
use Rattle.chip_lists.proofs.Alone.{no-ram, no-queues, no-others, by-rest}
use Rattle.chip_lists.proofs.is_alone.Goals as goal

pub returns-then-not-is_ram_length : goal.returns-then-not-is_ram_length
returns-then-not-is_ram_length c =
    let a = c.args in
    no-ram a.second a.ram a.queues a.stems a.others (sym c.is_ram_length.ensures ∙ c.if-not-is_ram_length.true)

pub returns-then-queues-ne-CHIP_QUEUES : goal.returns-then-queues-ne-CHIP_QUEUES
returns-then-queues-ne-CHIP_QUEUES c =
    let a = c.args in
    no-queues a.second a.ram a.queues a.stems a.others (sym c.is_ram_length.ensures ∙ c.if-not-is_ram_length.false) c.if-queues-ne-CHIP_QUEUES.true

pub returns-then-others-stems : goal.returns-then-others-stems
returns-then-others-stems c =
    let a = c.args in
    no-others a.second a.ram a.queues a.stems a.others (sym c.is_ram_length.ensures ∙ c.if-not-is_ram_length.false) c.if-queues-ne-CHIP_QUEUES.false c.if-others-stems.true

pub returns : goal.returns
returns c =
    let a = c.args in
    c.rests.ensures
    ∙ by-rest a.second a.ram a.queues a.stems a.others (sym c.is_ram_length.ensures ∙ c.if-not-is_ram_length.false) c.if-queues-ne-CHIP_QUEUES.false c.if-others-stems.false
