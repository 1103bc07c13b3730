mod Arrivals
mod BornItems
mod RightItems
