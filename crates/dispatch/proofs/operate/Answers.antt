-- Each arm's call gives the page of its number, and no number below 128 is left to the default. Written by tools/dispatch_proofs.py.
use Rattle.std.proofs.Common.{arith}
use Rattle.chip.proofs.Pages.{at, past_glossary}
use Rattle.dispatch.proofs.operate.Goals as goal

pub returns-in-0 : goal.returns-in-0
returns-in-0 c = at _ c.in-0.is c.basic.ensures

pub returns-in-1 : goal.returns-in-1
returns-in-1 c = at _ c.in-1.is c.basic-in-1.ensures

pub returns-in-2 : goal.returns-in-2
returns-in-2 c = at _ c.in-2.is c.basic-in-2.ensures

pub returns-in-3 : goal.returns-in-3
returns-in-3 c = at _ c.in-3.is c.basic-in-3.ensures

pub returns-in-4 : goal.returns-in-4
returns-in-4 c = at _ c.in-4.is c.basic-in-4.ensures

pub returns-in-5 : goal.returns-in-5
returns-in-5 c = at _ c.in-5.is c.basic-in-5.ensures

pub returns-in-6 : goal.returns-in-6
returns-in-6 c = at _ c.in-6.is c.basic-in-6.ensures

pub returns-in-7 : goal.returns-in-7
returns-in-7 c = at _ c.in-7.is c.basic-in-7.ensures

pub returns-in-8 : goal.returns-in-8
returns-in-8 c = at _ c.in-8.is c.basic-in-8.ensures

pub returns-in-9 : goal.returns-in-9
returns-in-9 c = at _ c.in-9.is c.basic-in-9.ensures

pub returns-in-10 : goal.returns-in-10
returns-in-10 c = at _ c.in-10.is c.basic-in-10.ensures

pub returns-in-11 : goal.returns-in-11
returns-in-11 c = at _ c.in-11.is c.basic-in-11.ensures

pub returns-in-12 : goal.returns-in-12
returns-in-12 c = at _ c.in-12.is c.basic-in-12.ensures

pub returns-in-13 : goal.returns-in-13
returns-in-13 c = at _ c.in-13.is c.basic-in-13.ensures

pub returns-in-14 : goal.returns-in-14
returns-in-14 c = at _ c.in-14.is c.basic-in-14.ensures

pub returns-in-15 : goal.returns-in-15
returns-in-15 c = at _ c.in-15.is c.basic-in-15.ensures

pub returns-in-16 : goal.returns-in-16
returns-in-16 c = at _ c.in-16.is c.basic-in-16.ensures

pub returns-in-17 : goal.returns-in-17
returns-in-17 c = at _ c.in-17.is c.basic-in-17.ensures

pub returns-in-18 : goal.returns-in-18
returns-in-18 c = at _ c.in-18.is c.basic-in-18.ensures

pub returns-in-19 : goal.returns-in-19
returns-in-19 c = at _ c.in-19.is c.basic-in-19.ensures

pub returns-in-20 : goal.returns-in-20
returns-in-20 c = at _ c.in-20.is c.basic-in-20.ensures

pub returns-in-21 : goal.returns-in-21
returns-in-21 c = at _ c.in-21.is c.basic-in-21.ensures

pub returns-in-22 : goal.returns-in-22
returns-in-22 c = at _ c.in-22.is c.basic-in-22.ensures

pub returns-in-23 : goal.returns-in-23
returns-in-23 c = at _ c.in-23.is c.basic-in-23.ensures

pub returns-in-24 : goal.returns-in-24
returns-in-24 c = at _ c.in-24.is c.basic-in-24.ensures

pub returns-in-25 : goal.returns-in-25
returns-in-25 c = at _ c.in-25.is c.basic-in-25.ensures

pub returns-in-26 : goal.returns-in-26
returns-in-26 c = at _ c.in-26.is c.basic-in-26.ensures

pub returns-in-27 : goal.returns-in-27
returns-in-27 c = at _ c.in-27.is c.basic-in-27.ensures

pub returns-in-28 : goal.returns-in-28
returns-in-28 c = at _ c.in-28.is c.basic-in-28.ensures

pub returns-in-29 : goal.returns-in-29
returns-in-29 c = at _ c.in-29.is c.basic-in-29.ensures

pub returns-in-30 : goal.returns-in-30
returns-in-30 c = at _ c.in-30.is c.unchanged.ensures

pub returns-in-31 : goal.returns-in-31
returns-in-31 c = at _ c.in-31.is c.unchanged-in-31.ensures

pub returns-in-32 : goal.returns-in-32
returns-in-32 c = at _ c.in-32.is c.shift.ensures

pub returns-in-33 : goal.returns-in-33
returns-in-33 c = at _ c.in-33.is c.shift-in-33.ensures

pub returns-in-34 : goal.returns-in-34
returns-in-34 c = at _ c.in-34.is c.shift-in-34.ensures

pub returns-in-35 : goal.returns-in-35
returns-in-35 c = at _ c.in-35.is c.shift-in-35.ensures

pub returns-in-36 : goal.returns-in-36
returns-in-36 c = at _ c.in-36.is c.shift-in-36.ensures

pub returns-in-37 : goal.returns-in-37
returns-in-37 c = at _ c.in-37.is c.shift-in-37.ensures

pub returns-in-38 : goal.returns-in-38
returns-in-38 c = at _ c.in-38.is c.shift-in-38.ensures

pub returns-in-39 : goal.returns-in-39
returns-in-39 c = at _ c.in-39.is c.shift-in-39.ensures

pub returns-in-40 : goal.returns-in-40
returns-in-40 c = at _ c.in-40.is c.shift-in-40.ensures

pub returns-in-41 : goal.returns-in-41
returns-in-41 c = at _ c.in-41.is c.shift-in-41.ensures

pub returns-in-42 : goal.returns-in-42
returns-in-42 c = at _ c.in-42.is c.shift-in-42.ensures

pub returns-in-43 : goal.returns-in-43
returns-in-43 c = at _ c.in-43.is c.shift-in-43.ensures

pub returns-in-44 : goal.returns-in-44
returns-in-44 c = at _ c.in-44.is c.shift-in-44.ensures

pub returns-in-45 : goal.returns-in-45
returns-in-45 c = at _ c.in-45.is c.shift-in-45.ensures

pub returns-in-46 : goal.returns-in-46
returns-in-46 c = at _ c.in-46.is c.shift-in-46.ensures

pub returns-in-47 : goal.returns-in-47
returns-in-47 c = at _ c.in-47.is c.shift-in-47.ensures

pub returns-in-48 : goal.returns-in-48
returns-in-48 c = at _ c.in-48.is c.shift-in-48.ensures

pub returns-in-49 : goal.returns-in-49
returns-in-49 c = at _ c.in-49.is c.shift-in-49.ensures

pub returns-in-50 : goal.returns-in-50
returns-in-50 c = at _ c.in-50.is c.shift-in-50.ensures

pub returns-in-51 : goal.returns-in-51
returns-in-51 c = at _ c.in-51.is c.shift-in-51.ensures

pub returns-in-52 : goal.returns-in-52
returns-in-52 c = at _ c.in-52.is c.shift-in-52.ensures

pub returns-in-53 : goal.returns-in-53
returns-in-53 c = at _ c.in-53.is c.shift-in-53.ensures

pub returns-in-54 : goal.returns-in-54
returns-in-54 c = at _ c.in-54.is c.shift-in-54.ensures

pub returns-in-55 : goal.returns-in-55
returns-in-55 c = at _ c.in-55.is c.shift-in-55.ensures

pub returns-in-56 : goal.returns-in-56
returns-in-56 c = at _ c.in-56.is c.shift-in-56.ensures

pub returns-in-57 : goal.returns-in-57
returns-in-57 c = at _ c.in-57.is c.shift-in-57.ensures

pub returns-in-58 : goal.returns-in-58
returns-in-58 c = at _ c.in-58.is c.shift-in-58.ensures

pub returns-in-59 : goal.returns-in-59
returns-in-59 c = at _ c.in-59.is c.shift-in-59.ensures

pub returns-in-60 : goal.returns-in-60
returns-in-60 c = at _ c.in-60.is c.basic-in-60.ensures

pub returns-in-61 : goal.returns-in-61
returns-in-61 c = at _ c.in-61.is c.basic-in-61.ensures

pub returns-in-62 : goal.returns-in-62
returns-in-62 c = at _ c.in-62.is c.basic-in-62.ensures

pub returns-in-63 : goal.returns-in-63
returns-in-63 c = at _ c.in-63.is c.basic-in-63.ensures

pub returns-in-64 : goal.returns-in-64
returns-in-64 c = at _ c.in-64.is c.basic-in-64.ensures

pub returns-in-65 : goal.returns-in-65
returns-in-65 c = at _ c.in-65.is c.basic-in-65.ensures

pub returns-in-66 : goal.returns-in-66
returns-in-66 c = at _ c.in-66.is c.basic-in-66.ensures

pub returns-in-67 : goal.returns-in-67
returns-in-67 c = at _ c.in-67.is c.basic-in-67.ensures

pub returns-in-68 : goal.returns-in-68
returns-in-68 c = at _ c.in-68.is c.basic-in-68.ensures

pub returns-in-69 : goal.returns-in-69
returns-in-69 c = at _ c.in-69.is c.basic-in-69.ensures

pub returns-in-70 : goal.returns-in-70
returns-in-70 c = at _ c.in-70.is c.basic-in-70.ensures

pub returns-in-71 : goal.returns-in-71
returns-in-71 c = at _ c.in-71.is c.basic-in-71.ensures

pub returns-in-72 : goal.returns-in-72
returns-in-72 c = at _ c.in-72.is c.decimal.ensures

pub returns-in-73 : goal.returns-in-73
returns-in-73 c = at _ c.in-73.is c.decimal-in-73.ensures

pub returns-in-74 : goal.returns-in-74
returns-in-74 c = at _ c.in-74.is c.decimal-in-74.ensures

pub returns-in-75 : goal.returns-in-75
returns-in-75 c = at _ c.in-75.is c.decimal-in-75.ensures

pub returns-in-76 : goal.returns-in-76
returns-in-76 c = at _ c.in-76.is c.unchanged-in-76.ensures

pub returns-in-77 : goal.returns-in-77
returns-in-77 c = at _ c.in-77.is c.unchanged-in-77.ensures

pub returns-in-78 : goal.returns-in-78
returns-in-78 c = at _ c.in-78.is c.divide.ensures

pub returns-in-79 : goal.returns-in-79
returns-in-79 c = at _ c.in-79.is c.divide-in-79.ensures

pub returns-in-80 : goal.returns-in-80
returns-in-80 c = at _ c.in-80.is c.divide-in-80.ensures

pub returns-in-81 : goal.returns-in-81
returns-in-81 c = at _ c.in-81.is c.divide-in-81.ensures

pub returns-in-82 : goal.returns-in-82
returns-in-82 c = at _ c.in-82.is c.divide-in-82.ensures

pub returns-in-83 : goal.returns-in-83
returns-in-83 c = at _ c.in-83.is c.divide-in-83.ensures

pub returns-in-84 : goal.returns-in-84
returns-in-84 c = at _ c.in-84.is c.divide-in-84.ensures

pub returns-in-85 : goal.returns-in-85
returns-in-85 c = at _ c.in-85.is c.divide-in-85.ensures

pub returns-in-86 : goal.returns-in-86
returns-in-86 c = at _ c.in-86.is c.divide-in-86.ensures

pub returns-in-87 : goal.returns-in-87
returns-in-87 c = at _ c.in-87.is c.divide-in-87.ensures

pub returns-in-88 : goal.returns-in-88
returns-in-88 c = at _ c.in-88.is c.divide-in-88.ensures

pub returns-in-89 : goal.returns-in-89
returns-in-89 c = at _ c.in-89.is c.divide-in-89.ensures

pub returns-in-90 : goal.returns-in-90
returns-in-90 c = at _ c.in-90.is c.divide-in-90.ensures

pub returns-in-91 : goal.returns-in-91
returns-in-91 c = at _ c.in-91.is c.multiply.ensures

pub returns-in-92 : goal.returns-in-92
returns-in-92 c = at _ c.in-92.is c.multiply-in-92.ensures

pub returns-in-93 : goal.returns-in-93
returns-in-93 c = at _ c.in-93.is c.multiply-in-93.ensures

pub returns-in-94 : goal.returns-in-94
returns-in-94 c = at _ c.in-94.is c.multiply-in-94.ensures

pub returns-in-95 : goal.returns-in-95
returns-in-95 c = at _ c.in-95.is c.multiply-in-95.ensures

pub returns-in-96 : goal.returns-in-96
returns-in-96 c = at _ c.in-96.is c.field.ensures

pub returns-in-97 : goal.returns-in-97
returns-in-97 c = at _ c.in-97.is c.field-in-97.ensures

pub returns-in-98 : goal.returns-in-98
returns-in-98 c = at _ c.in-98.is c.field-in-98.ensures

pub returns-in-99 : goal.returns-in-99
returns-in-99 c = at _ c.in-99.is c.field-in-99.ensures

pub returns-in-100 : goal.returns-in-100
returns-in-100 c = at _ c.in-100.is c.field-in-100.ensures

pub returns-in-101 : goal.returns-in-101
returns-in-101 c = at _ c.in-101.is c.field-in-101.ensures

pub returns-in-102 : goal.returns-in-102
returns-in-102 c = at _ c.in-102.is c.field-in-102.ensures

pub returns-in-103 : goal.returns-in-103
returns-in-103 c = at _ c.in-103.is c.field-in-103.ensures

pub returns-in-104 : goal.returns-in-104
returns-in-104 c = at _ c.in-104.is c.field-in-104.ensures

pub returns-in-105 : goal.returns-in-105
returns-in-105 c = at _ c.in-105.is c.field-in-105.ensures

pub returns-in-106 : goal.returns-in-106
returns-in-106 c = at _ c.in-106.is c.field-in-106.ensures

pub returns-in-107 : goal.returns-in-107
returns-in-107 c = at _ c.in-107.is c.field-in-107.ensures

pub returns-in-108 : goal.returns-in-108
returns-in-108 c = at _ c.in-108.is c.field-in-108.ensures

pub returns-in-109 : goal.returns-in-109
returns-in-109 c = at _ c.in-109.is c.field-in-109.ensures

pub returns-in-110 : goal.returns-in-110
returns-in-110 c = at _ c.in-110.is c.field-in-110.ensures

pub returns-in-111 : goal.returns-in-111
returns-in-111 c = at _ c.in-111.is c.field-in-111.ensures

pub returns-in-112 : goal.returns-in-112
returns-in-112 c = at _ c.in-112.is c.field-in-112.ensures

pub returns-in-113 : goal.returns-in-113
returns-in-113 c = at _ c.in-113.is c.field-in-113.ensures

pub returns-in-114 : goal.returns-in-114
returns-in-114 c = at _ c.in-114.is c.field-in-114.ensures

pub returns-in-115 : goal.returns-in-115
returns-in-115 c = at _ c.in-115.is c.field-in-115.ensures

pub returns-in-116 : goal.returns-in-116
returns-in-116 c = at _ c.in-116.is c.field-in-116.ensures

pub returns-in-117 : goal.returns-in-117
returns-in-117 c = at _ c.in-117.is c.field-in-117.ensures

pub returns-in-118 : goal.returns-in-118
returns-in-118 c = at _ c.in-118.is c.field-in-118.ensures

pub returns-in-119 : goal.returns-in-119
returns-in-119 c = at _ c.in-119.is c.field-in-119.ensures

pub returns-in-120 : goal.returns-in-120
returns-in-120 c = at _ c.in-120.is c.field-in-120.ensures

pub returns-in-121 : goal.returns-in-121
returns-in-121 c = at _ c.in-121.is c.field-in-121.ensures

pub returns-in-122 : goal.returns-in-122
returns-in-122 c = at _ c.in-122.is c.field-in-122.ensures

pub returns-in-123 : goal.returns-in-123
returns-in-123 c = at _ c.in-123.is c.field-in-123.ensures

pub returns-in-124 : goal.returns-in-124
returns-in-124 c = at _ c.in-124.is c.field-in-124.ensures

pub returns-in-125 : goal.returns-in-125
returns-in-125 c = at _ c.in-125.is c.field-in-125.ensures

pub returns-in-126 : goal.returns-in-126
returns-in-126 c = at _ c.in-126.is c.field-in-126.ensures

pub returns-in-127 : goal.returns-in-127
returns-in-127 c = at _ c.in-127.is c.field-in-127.ensures

pub returns-in_default : goal.returns-in_default
returns-in_default c = past_glossary c.args.opcode c.args.x (omega arith) c.unchanged-in_default.ensures
