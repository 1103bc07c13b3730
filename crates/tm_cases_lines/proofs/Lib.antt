mod Reaches
mod Wholes
